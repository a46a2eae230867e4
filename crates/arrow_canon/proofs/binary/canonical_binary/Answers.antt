use Rattle.std.proofs.Common.{arith, subst}
use Rattle.std.specs.Prelude.{pred}
use Rattle.std.proofs.lemmas.List.{length-map}
use Rattle.arrow_canon.specs.Runs.{AreWithin}
use Rattle.arrow_types.specs.Seen.{seen}
use Rattle.arrow_meaning.specs.Nodes.{binary_layout}
use Rattle.arrow_canon.proofs.Counts.{runs_fit}
use Rattle.arrow_canon.proofs.binary.canonical_binary.Goals as goal

pub returns-in_default-clause-overflow : goal.returns-in_default-clause-overflow
returns-in_default-clause-overflow g c refused fits =
    let few = runs_fit (seen c.args.dtype.now) (binary_layout g.O.Offset.number c.args.array.now) c.args.runs.now fits in
    omega (arith, few, c.in_default.ensures)

pub counted_array-requires-clause-within : goal.counted_array-requires-clause-within
counted_array-requires-clause-within g c = subst (λ n. AreWithin (pred n) c.args.runs.now) (length-map c.args.array.now.offsets g.O.Offset.number) c.requires.within
