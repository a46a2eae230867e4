use Rattle.std.proofs.Common.{◌≡◌, take}
use Rattle.arrow_canon.specs.Runs.{places}
use Rattle.arrow_canon.proofs.run.places_of_runs.Given as goal

abbrev pub invariant-loop-run : goal.invariant-loop-run
invariant-loop-run l = l.positions.items ≡ places (take l.run-index l.runs)
