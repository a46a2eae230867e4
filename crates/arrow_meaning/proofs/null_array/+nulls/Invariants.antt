use Rattle.std.proofs.Common.{map, take, ◌*◌, ◌+◌, ◌≡◌}
use Rattle.arrow_layout.specs.NullLayout.{null_layout}
use Rattle.arrow_types.specs.Depth.{depth_of, fields_depth}
use Rattle.arrow_types.specs.Seen.{seen, seen_fields}
use Rattle.arrow_types.specs.declared.datatype.UnionType.{out-UnionType}
use Rattle.arrow_meaning.proofs.null_array.+nulls.Given as goal

abbrev pub invariant-make_arrays-loop-field : goal.invariant-make_arrays-loop-field
invariant-make_arrays-loop-field l = l.children.items ≡ map (λ f. null_layout (seen f.dtype) l.length) (take l.field-index l.fields)

-- the depth of the type, and among the functions at one depth an order in which they call each other
abbrev pub decreases-make_array : goal.decreases-make_array
decreases-make_array l = 5 * depth_of (seen l.dtype.now) + 1

abbrev pub decreases-make_node : goal.decreases-make_node
decreases-make_node l = 5 * depth_of (seen l.storage.now)

abbrev pub decreases-make_arrays : goal.decreases-make_arrays
decreases-make_arrays l = 5 * fields_depth (seen_fields l.fields.now) + 2

abbrev pub decreases-make_selected : goal.decreases-make_selected
decreases-make_selected l = 5 * fields_depth (seen_fields l.fields.now) + 3

abbrev pub decreases-make_children : goal.decreases-make_children
decreases-make_children l = 5 * fields_depth (seen_fields (out-UnionType l.union.now).fields) + 4
