use Rattle.std.proofs.Common.{◌≡◌, take, Some}
use Rattle.std.specs.Prelude.{map}
use Rattle.serde_json.specs.View.{view}
use Rattle.type_json.specs.Values.{traverse}
use Rattle.column_grammar.specs.Values.{signed_in}
use Rattle.column_read.proofs.union.type_list.Given as goal

abbrev pub invariant-loop-item : goal.invariant-loop-item
invariant-loop-item l = traverse (signed_in 7) (map view (take l.item-index l.list)) ≡ Some l.types.items
