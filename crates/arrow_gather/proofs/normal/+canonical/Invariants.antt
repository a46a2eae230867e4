use Rattle.std.proofs.Common.{◌≡◌, ◌+◌, ◌*◌, map, take}
use Rattle.arrow_types.specs.Seen.{seen}
use Rattle.arrow_types.specs.Select.{nat_of}
use Rattle.arrow_layout.specs.Fits.{AllFit}
use Rattle.arrow_layout.specs.Layouts.{layouts}
use Rattle.arrow_layout.specs.NodeCount.{node_count, node_counts}
use Rattle.arrow_layout.specs.WellFormed.{positions}
use Rattle.arrow_canon.specs.Runs.{places}
use Rattle.arrow_items.specs.Unions.{children_by, dense_children, fill_field, sparse_children}
use Rattle.arrow_gather.proofs.normal.+canonical.Given as goal

-- a child is made of fewer arrays than its parent, and the calls on one array come in this order

abbrev pub decreases-canonical : goal.decreases-canonical
decreases-canonical l = 8 * node_count l.array.now + 4

abbrev pub decreases-canonical_node : goal.decreases-canonical_node
decreases-canonical_node l = 8 * node_count l.array.now + 3

abbrev pub decreases-canonical_child : goal.decreases-canonical_child
decreases-canonical_child l = 8 * node_count l.child.now + 5

abbrev pub decreases-canonical_list : goal.decreases-canonical_list
decreases-canonical_list l = 8 * node_count l.child.now + 6

abbrev pub decreases-canonical_fixed_size_list : goal.decreases-canonical_fixed_size_list
decreases-canonical_fixed_size_list l = 8 * node_count l.child.now + 6

abbrev pub decreases-canonical_struct : goal.decreases-canonical_struct
decreases-canonical_struct l = 8 * node_counts (layouts l.children.now) + 7

abbrev pub decreases-canonical_children : goal.decreases-canonical_children
decreases-canonical_children l = 8 * node_counts (layouts l.children.now) + 6

abbrev pub decreases-canonical_sparse : goal.decreases-canonical_sparse
decreases-canonical_sparse l = 8 * node_counts (layouts l.children.now) + 7

abbrev pub decreases-canonical_sparse_children : goal.decreases-canonical_sparse_children
decreases-canonical_sparse_children l = 8 * node_counts (layouts l.children.now) + 6

abbrev pub decreases-canonical_dense : goal.decreases-canonical_dense
decreases-canonical_dense l = 8 * node_counts (layouts l.children.now) + 7

abbrev pub decreases-canonical_dense_children : goal.decreases-canonical_dense_children
decreases-canonical_dense_children l = 8 * node_counts (layouts l.children.now) + 6

abbrev pub decreases-canonical_dictionary : goal.decreases-canonical_dictionary
decreases-canonical_dictionary l = 8 * node_count l.child.now + 5

-- ---- the loops over children

abbrev pub invariant-canonical_children-loop-child : goal.invariant-canonical_children-loop-child
invariant-canonical_children-loop-child l =
    (layouts l.made.items ≡ children_by (λ j. places l.items) (layouts (take l.child-index l.children)) 0)
    × AllFit (children_by (λ j. places l.items) (layouts (take l.child-index l.children)) 0)

abbrev pub invariant-canonical_sparse_children-loop-j : goal.invariant-canonical_sparse_children-loop-j
invariant-canonical_sparse_children-loop-j l =
    (layouts l.made.items ≡ sparse_children l.fields l.shift (layouts (take l.j l.children)) (places l.runs))
    × AllFit (sparse_children l.fields l.shift (layouts (take l.j l.children)) (places l.runs))

abbrev pub invariant-canonical_dense_children-loop-j : goal.invariant-canonical_dense_children-loop-j
invariant-canonical_dense_children-loop-j l =
    let t = seen l.dtype in
    let ls = dense_children (positions t l.types) (map nat_of l.offsets) (fill_field t) (layouts (take l.j l.children)) (places l.runs) in
    (layouts l.made.items ≡ ls) × AllFit ls
