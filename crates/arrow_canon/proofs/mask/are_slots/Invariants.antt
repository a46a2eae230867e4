use Rattle.std.proofs.Common.{◌≡◌, None, true, map, take}
use Rattle.std.specs.List.{list_all}
use Rattle.arrow_buffers.specs.Bits.{same}
use Rattle.arrow_canon.specs.Picks.{valid_place}
use Rattle.arrow_canon.specs.Runs.{places}
use Rattle.arrow_canon.proofs.mask.are_slots.Given as goal

abbrev pub invariant-loop-run : goal.invariant-loop-run
invariant-loop-run l = list_all same (map (valid_place None) (places (take l.run-index l.runs))) ≡ true
