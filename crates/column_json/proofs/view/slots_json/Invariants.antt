use Rattle.std.proofs.Common.{◌≡◌, map, take}
use Rattle.serde_json.specs.View.{view}
use Rattle.column_grammar.specs.Writes.{view_value}
use Rattle.column_json.proofs.view.slots_json.Given as goal

abbrev pub invariant-loop-slot : goal.invariant-loop-slot
invariant-loop-slot l = map view l.list.items ≡ map view_value (take l.slot-index l.slots)
