use Rattle.std.proofs.Common.{arith}
use Rattle.arrow_types.specs.Seen.{seen}
use Rattle.arrow_meaning.specs.Nodes.{view_layout}
use Rattle.arrow_canon.proofs.Counts.{runs_fit}
use Rattle.arrow_canon.proofs.view.canonical_view.Goals as goal

pub returns-in_default-clause-overflow : goal.returns-in_default-clause-overflow
returns-in_default-clause-overflow g c refused fits =
    let few = runs_fit (seen c.args.dtype.now) (view_layout c.args.array.now) c.args.runs.now fits in
    omega (arith, few, c.in_default.ensures)
