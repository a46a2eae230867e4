use Rattle.std.proofs.Common.{◌≡◌, map, take}
use Rattle.std.specs.Option.{option_copied}
use Rattle.arrow_canon.specs.Picks.{valid_place}
use Rattle.arrow_canon.specs.Runs.{places}
use Rattle.arrow_canon.proofs.mask.bits_of_runs.Given as goal

abbrev pub invariant-loop-run : goal.invariant-loop-run
invariant-loop-run l = l.bits ≡ map (valid_place (option_copied l.fn.validity)) (places (take l.run-index l.runs))
