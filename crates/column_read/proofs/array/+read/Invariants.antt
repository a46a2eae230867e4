use Rattle.std.proofs.Common.{◌+◌, ◌*◌, take}
use Rattle.std.specs.Prelude.{map, option_map}
use Rattle.serde_json.specs.View.{view}
use Rattle.arrow_types.specs.Depth.{depth_of, fields_depth}
use Rattle.arrow_types.specs.Seen.{seen, seen_fields}
use Rattle.column_grammar.specs.Reads.{children_in}
use Rattle.column_read.specs.Arrays.{AreReadOf}
use Rattle.column_read.proofs.array.+read.Given as goal

-- a child's type is less deep than its parent's, and the calls on one type come in this order

abbrev pub decreases-array_in : goal.decreases-array_in
decreases-array_in l = 8 * depth_of (seen l.dtype.now) + 5

abbrev pub decreases-stored_in : goal.decreases-stored_in
decreases-stored_in l = 8 * depth_of (seen l.storage.now) + 4

abbrev pub decreases-child_in : goal.decreases-child_in
decreases-child_in l = 8 * depth_of (seen l.dtype.now) + 6

abbrev pub decreases-values_in : goal.decreases-values_in
decreases-values_in l = 8 * depth_of (seen l.dtype.now) + 6

abbrev pub decreases-children_in : goal.decreases-children_in
decreases-children_in l = 8 * fields_depth (seen_fields l.fields.now) + 8

abbrev pub decreases-arrays_in : goal.decreases-arrays_in
decreases-arrays_in l = 8 * fields_depth (seen_fields l.fields.now) + 7

abbrev pub decreases-each_array : goal.decreases-each_array
decreases-each_array l = 8 * fields_depth (seen_fields l.fields.now) + 6

abbrev pub invariant-each_array-loop-i : goal.invariant-each_array-loop-i
invariant-each_array-loop-i l = AreReadOf (children_in (seen_fields (take l.i l.fields)) (map view (take l.i l.values))) (option_map (λ v. v.items) l.children)
