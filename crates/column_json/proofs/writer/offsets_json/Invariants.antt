use Rattle.std.proofs.Common.{◌≡◌, map, take}
use Rattle.serde_json.specs.View.{view}
use Rattle.column_grammar.specs.Values.{integer_value}
use Rattle.column_json.proofs.writer.offsets_json.Given as goal

abbrev pub invariant-loop-offset : goal.invariant-loop-offset
invariant-loop-offset g l = map view l.list.items ≡ map integer_value (map g.O.Offset.number (take l.offset-index l.items))
