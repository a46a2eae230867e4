use Rattle.std.proofs.Common.{◌≡◌, take}
use Rattle.arrow_canon.specs.Picks.{picks}
use Rattle.arrow_canon.specs.Runs.{places}
use Rattle.arrow_items.proofs.union.picked_numbers.Given as goal

abbrev pub invariant-loop-run : goal.invariant-loop-run
invariant-loop-run l = l.numbers.items ≡ picks l.filling l.types (places (take l.run-index l.runs))
