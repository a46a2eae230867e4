use Rattle.std.proofs.Common.{drop, ◌≡◌}
use Rattle.arrow_types.specs.Select.{last_place}
use Rattle.arrow_meaning.proofs.null_check.last_place.Given as goal

abbrev pub invariant-loop-i : goal.invariant-loop-i
invariant-loop-i l = last_place l.found l.i (drop l.i l.ids) l.number ≡ last_place 0 0 l.ids l.number
