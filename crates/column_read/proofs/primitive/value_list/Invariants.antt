use Rattle.std.proofs.Common.{◌≡◌, take, Some}
use Rattle.std.specs.Prelude.{map}
use Rattle.serde_json.specs.View.{view}
use Rattle.type_json.specs.Values.{traverse}
use Rattle.column_grammar.specs.Values.{number_in}
use Rattle.column_read.proofs.primitive.value_list.Given as goal

abbrev pub invariant-loop-item : goal.invariant-loop-item
invariant-loop-item g l = traverse (number_in g.T.NativeType.PRIMITIVE) (map view (take l.item-index l.list)) ≡ Some (map g.T.NativeType.parts l.values.items)
