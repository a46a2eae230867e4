use Rattle.std.proofs.Common.{◌≡◌, take, Some}
use Rattle.std.specs.Prelude.{map}
use Rattle.serde_json.specs.View.{view}
use Rattle.type_json.specs.Values.{traverse}
use Rattle.column_grammar.specs.Values.{signed_in}
use Rattle.column_grammar.specs.Reads.{offset_bits}
use Rattle.column_read.proofs.binary.offset_list.Given as goal

abbrev pub invariant-loop-item : goal.invariant-loop-item
invariant-loop-item g l = traverse (signed_in (offset_bits g.O.Offset.IS_LARGE)) (map view (take l.item-index l.list)) ≡ Some (map g.O.Offset.number l.offsets.items)
