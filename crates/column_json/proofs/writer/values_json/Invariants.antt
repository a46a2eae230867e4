use Rattle.std.proofs.Common.{◌≡◌, map, take}
use Rattle.serde_json.specs.View.{view}
use Rattle.column_grammar.specs.Values.{number_value}
use Rattle.column_json.proofs.writer.values_json.Given as goal

abbrev pub invariant-loop-value : goal.invariant-loop-value
invariant-loop-value g l = map view l.list.items ≡ map (number_value g.T.NativeType.PRIMITIVE) (map g.T.NativeType.parts (take l.value-index l.values))
