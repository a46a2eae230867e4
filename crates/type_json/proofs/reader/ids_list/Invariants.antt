use Rattle.std.proofs.Common.{◌≡◌, take, Some}
use Rattle.std.specs.Prelude.{map}
use Rattle.serde_json.specs.View.{view}
use Rattle.type_json.specs.Values.{traverse, int32_in}
use Rattle.type_json.proofs.reader.ids_list.Given as goal

abbrev pub invariant-loop-item : goal.invariant-loop-item
invariant-loop-item l = traverse int32_in (map view (take l.item-index l.list)) ≡ Some l.ids
