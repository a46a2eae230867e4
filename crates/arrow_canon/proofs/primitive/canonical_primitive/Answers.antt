use Rattle.std.proofs.Common.{arith, subst}
use Rattle.std.proofs.lemmas.List.{length-map}
use Rattle.arrow_canon.specs.Runs.{AreWithin}
use Rattle.arrow_types.specs.Seen.{seen}
use Rattle.arrow_meaning.specs.Nodes.{primitive_layout}
use Rattle.arrow_canon.proofs.Counts.{runs_fit}
use Rattle.arrow_canon.proofs.primitive.canonical_primitive.Goals as goal

pub returns-in_default-clause-overflow : goal.returns-in_default-clause-overflow
returns-in_default-clause-overflow g c refused fits =
    let few = runs_fit (seen c.args.dtype.now) (primitive_layout g.T.NativeType.parts c.args.array.now) c.args.runs.now fits in
    omega (arith, few, c.in_default.ensures)

pub picked_array-requires-clause-within : goal.picked_array-requires-clause-within
picked_array-requires-clause-within g c = subst (λ n. AreWithin n c.args.runs.now) (length-map c.args.array.now.values g.T.NativeType.parts) c.requires.within
