use Rattle.std.proofs.Common.{Err, ap, ◌<◌, refl, sum, sym, subst, ◌∙◌, arith}
use Rattle.arrow_types.specs.Seen.{seen}
use Rattle.arrow_canon.proofs.Binaries.{values_within, fits_if, few_if}
use Rattle.arrow_canon.proofs.binary.counted_array.Goals as goal

pub slot_lengths-requires : goal.slot_lengths-requires
slot_lengths-requires g c = λ k. ((refl, tt), (refl, values_within g.K.ViewType.IS_TEXT g.O.Offset.IS_LARGE g.O.Offset.number c.args.array.now c.invariant.ensures.sound (seen c.args.dtype.now) c.requires.of_type c.args.runs.now c.requires.within))

pub returns-in-Err-Overflow-clause-overflow : goal.returns-in-Err-Overflow-clause-overflow
returns-in-Err-Overflow-clause-overflow g c refused fits =
    let few = few_if g.K.ViewType.IS_TEXT g.O.Offset.IS_LARGE g.O.Offset.number c.args.array.now c.invariant.ensures.sound (seen c.args.dtype.now) c.requires.of_type c.args.runs.now c.requires.within
    g.O.Offset.limit g.met.O.Offset.limit_by_size fits in
    let same = c.as_slice.ensures.value ∙ c.in_ok-lengths.ensures in
    let some : sum c.as_slice.result.now < g.O.Offset.limit = subst (λ ns. sum ns < g.O.Offset.limit) (sym same) few in
    omega (arith, some, c.in-Err-Overflow.ensures.overflow (ap Err c.in-Err-Overflow.field-0-is))

pub returns-clause-ok : goal.returns-clause-ok
returns-clause-ok g c =
    let same = c.as_slice.ensures.value ∙ c.in_ok-lengths.ensures in (
      c.in_ok-picked_array.ensures,
      fits_if g.K.ViewType.IS_TEXT g.O.Offset.IS_LARGE g.O.Offset.number c.args.array.now c.invariant.ensures.sound (seen c.args.dtype.now) c.requires.of_type c.args.runs.now c.requires.within
          g.O.Offset.limit g.met.O.Offset.limit_by_size (omega (arith, c.requires.counted, c.ranges.count.fits)) (subst (λ ns. sum ns < g.O.Offset.limit) same c.in-Ok.ensures.fits),
    )
