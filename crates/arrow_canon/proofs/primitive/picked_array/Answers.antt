use Rattle.std.proofs.Common.{◌≡◌, ap, ◌∙◌, arith}
use Rattle.arrow_types.specs.Seen.{seen}
use Rattle.arrow_types.specs.Types.{physical_of}
use Rattle.arrow_flat.specs.Primitives.{slots}
use Rattle.arrow_meaning.specs.Nodes.{primitive_layout}
use Rattle.arrow_canon.specs.Picks.{picks, picked_mask}
use Rattle.arrow_canon.specs.Runs.{places}
use Rattle.arrow_canon.specs.Steps.{values_or}
use Rattle.arrow_canon.proofs.Primitives.{stored_for, canonical_numbers, mask_of_parts, fits_if}
use Rattle.arrow_canon.proofs.primitive.picked_array.Goals as goal

pub new-requires-clause-fits : goal.new-requires-clause-fits
new-requires-clause-fits g c =
    let a = c.args.array.now in
    let n = g.T.NativeType in
    let ps = places c.args.runs.now in
    let mask : c.in_ok-validity.validity ≡ picked_mask a.mask ps = c.in_ok-validity.ensures ∙ ap (λ m. picked_mask m ps) c.validity.ensures in
    let values : c.in_ok-values-2.values ≡ picks n.zero (values_or n.zero (slots a)) ps = c.in_ok-values-2.ensures ∙ c.in_ok-values.ensures in
    mask_of_parts n.parts n.zero n.PRIMITIVE g.met.T.NativeType.zero_parts a c.invariant.ensures (seen c.args.dtype.now) c.requires.of_type c.args.runs.now c.requires.within
    c.in_ok-validity.validity c.in_ok-values-2.values mask values

pub new-requires-clause-stored : goal.new-requires-clause-stored
new-requires-clause-stored g c =
    let n = g.T.NativeType in
    ap (λ d. physical_of (seen d)) c.in_ok-dtype.ensures
    ∙ stored_for n.parts n.zero n.PRIMITIVE g.met.T.NativeType.zero_parts c.args.array.now c.invariant.ensures (seen c.args.dtype.now) c.requires.of_type

pub returns : goal.returns
returns g c =
    let a = c.args.array.now in
    let n = g.T.NativeType in
    let ps = places c.args.runs.now in
    let mask : c.in_ok-validity.validity ≡ picked_mask a.mask ps = c.in_ok-validity.ensures ∙ ap (λ m. picked_mask m ps) c.validity.ensures in
    let values : c.in_ok-values-2.values ≡ picks n.zero (values_or n.zero (slots a)) ps = c.in_ok-values-2.ensures ∙ c.in_ok-values.ensures in (
      ap (primitive_layout n.parts) c.new.ensures
          ∙ canonical_numbers n.parts n.zero n.PRIMITIVE g.met.T.NativeType.zero_parts a c.invariant.ensures (seen c.args.dtype.now) c.requires.of_type c.args.runs.now c.requires.within
          (record { dtype = c.in_ok-dtype.dtype; values = c.in_ok-values-2.values; mask = c.in_ok-validity.validity })
          (ap seen c.in_ok-dtype.ensures) values mask,
      fits_if n.parts n.zero n.PRIMITIVE g.met.T.NativeType.zero_parts a c.invariant.ensures (seen c.args.dtype.now) c.requires.of_type c.args.runs.now c.requires.within
          (omega (arith, c.requires.counted, c.ranges.count.fits)),
    )
