use Rattle.std.proofs.Common.{◌^◌, ◌<◌, arith, length, subst}
use Rattle.arrow_meaning.proofs.FlatLayouts.{well_formed_offsets}
use Rattle.arrow_meaning.proofs.binary.OffsetArrayFlatNode.invariant.Goals as goal

pub returns-clause-sound : goal.returns-clause-sound
returns-clause-sound g c =
    well_formed_offsets g.O.Offset.number g.K.ViewType.IS_TEXT g.O.Offset.IS_LARGE g.O.Offset.limit c.args.self.now c.invariant.ensures.sound g.met.O.SizedOffset.same_limit
    c.invariant.ensures.ascending (omega arith) (subst (λ xs. length xs < 2 ^ 64) c.values.ensures (omega arith))
