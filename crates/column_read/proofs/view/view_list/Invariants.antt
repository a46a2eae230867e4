use Rattle.std.proofs.Common.{◌≡◌, take, Some}
use Rattle.std.specs.Prelude.{map}
use Rattle.serde_json.specs.View.{view}
use Rattle.arrow_flat.specs.Natives.{octets}
use Rattle.type_json.specs.Values.{traverse}
use Rattle.column_grammar.specs.Reads.{view_in}
use Rattle.column_read.proofs.view.view_list.Given as goal

abbrev pub invariant-loop-item : goal.invariant-loop-item
invariant-loop-item l = traverse (view_in (map octets l.buffers)) (map view (take l.item-index l.list)) ≡ Some l.views.items
