use Rattle.std.proofs.Common.{◌∙◌, ◌^◌, ◌<◌, ap, arith, length, subst}
use Rattle.arrow_types.specs.Seen.{seen}
use Rattle.arrow_layout.proofs.Physical.{physical-by, physical_by}
use Rattle.arrow_meaning.proofs.FlatKinds.{sized_form}
use Rattle.arrow_meaning.proofs.FlatLayouts.{well_formed_sized}
use Rattle.arrow_meaning.proofs.fixed_size_binary.FixedSizeBinaryArrayFlatNode.invariant.Goals as goal

pub returns-clause-sound : goal.returns-clause-sound
returns-clause-sound c = well_formed_sized c.args.self.now c.invariant.ensures (subst (λ xs. length xs < 2 ^ 64) c.values.ensures (omega arith)) (omega arith)

pub returns-clause-kind : goal.returns-clause-kind
returns-clause-kind c =
    let t = seen c.args.self.now.dtype in
    physical-by t ∙ ap (physical_by t) (sized_form t c.args.self.now.size c.invariant.ensures.sized)
