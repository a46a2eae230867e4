use Rattle.std.specs.Prelude.{map, take}
use Rattle.column_grammar.specs.Writes.{view_value}
use Rattle.column_json.proofs.Tokens.{Begun}
use Rattle.column_json.proofs.text.put_slots.Given as goal

abbrev pub invariant-loop-slot : goal.invariant-loop-slot
invariant-loop-slot l = Begun l.initial.out l.out (map view_value (take l.slot-index l.slots))
