use Rattle.std.proofs.Common.{◌≡◌, ◌+◌, ◌*◌, max, drop}
use Rattle.serde_json.specs.Data.{depth, items_depth}
use Rattle.serde_json.specs.View.{view, items_view}
use Rattle.type_json.specs.TypeJson.{fields_list}
use Rattle.type_json.proofs.Parts.{behind}
use Rattle.type_json.proofs.reader.+reader.Given as goal

abbrev pub decreases-type_of : goal.decreases-type_of
decreases-type_of l = 4 * depth (view l.value.now)

abbrev pub decreases-of_two : goal.decreases-of_two
decreases-of_two l = 4 * depth (view l.part.now) + 1

abbrev pub decreases-of_three : goal.decreases-of_three
decreases-of_three l = 4 * depth (view l.part.now) + 1

abbrev pub decreases-of_four : goal.decreases-of_four
decreases-of_four l = 4 * max (depth (view l.third.now)) (depth (view l.last.now)) + 2

abbrev pub decreases-union : goal.decreases-union
decreases-union l = 4 * depth (view l.fields.now) + 1

abbrev pub decreases-dictionary : goal.decreases-dictionary
decreases-dictionary l = 4 * depth (view l.dtype.now) + 1

abbrev pub decreases-extension : goal.decreases-extension
decreases-extension l = 4 * depth (view l.dtype.now) + 1

abbrev pub decreases-field_of : goal.decreases-field_of
decreases-field_of l = 4 * depth (view l.value.now)

abbrev pub decreases-field_from : goal.decreases-field_from
decreases-field_from l = 4 * depth (view l.dtype.now) + 1

abbrev pub decreases-fields_of : goal.decreases-fields_of
decreases-fields_of l = 4 * depth (view l.value.now)

abbrev pub decreases-fields_list : goal.decreases-fields_list
decreases-fields_list l = 4 * items_depth (items_view l.list.now) + 1

abbrev pub invariant-fields_list-loop-item : goal.invariant-fields_list-loop-item
invariant-fields_list-loop-item l = fields_list (items_view l.list) ≡ behind l.fields (fields_list (items_view (drop l.item-index l.list)))
