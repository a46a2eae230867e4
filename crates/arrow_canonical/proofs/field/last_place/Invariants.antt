use Rattle.std.proofs.Common.{◌≡◌, drop}
use Rattle.std.specs.Prelude.{pos}
use Rattle.arrow_types.specs.Select.{last_place}
use Rattle.arrow_canonical.proofs.field.last_place.Given as goal

-- what the ids from here on find is what all of them do
abbrev pub invariant-loop-i : goal.invariant-loop-i
invariant-loop-i l = last_place l.place l.i (drop l.i l.ids) (pos l.number) ≡ last_place 0 0 l.ids (pos l.number)
