use Rattle.std.proofs.Common.{◌≡◌, ◌+◌, ◌*◌, take}
use Rattle.arrow_layout.specs.Layouts.{layouts}
use Rattle.arrow_layout.specs.NodeCount.{node_count, node_counts}
use Rattle.arrow_equal.specs.SlotParts.{part_count, row_at, slots_from}
use Rattle.arrow_equal.proofs.compare.+same.Given as goal

abbrev pub invariant-ranges_same-loop-i : goal.invariant-ranges_same-loop-i
invariant-ranges_same-loop-i l = slots_from l.lhs l.start l.i ≡ slots_from l.rhs l.other_start l.i

abbrev pub invariant-rows_same-loop-k : goal.invariant-rows_same-loop-k
invariant-rows_same-loop-k l = row_at l.i (take l.k l.lhs) ≡ row_at l.j (take l.k l.rhs)

-- the arrays that the slots stand in, and among the functions at the same arrays the order in which they call each other
abbrev pub decreases-slots_same : goal.decreases-slots_same
decreases-slots_same l = 4 * (node_count l.lhs.now + node_count l.rhs.now)

abbrev pub decreases-same_parts : goal.decreases-same_parts
decreases-same_parts l = 4 * (part_count l.lhs + part_count l.rhs) + 3

abbrev pub decreases-is_items : goal.decreases-is_items
decreases-is_items l = 4 * (node_count l.child.now + part_count l.other) + 2

abbrev pub decreases-is_row : goal.decreases-is_row
decreases-is_row l = 4 * (node_counts (layouts l.children.now) + part_count l.other) + 2

abbrev pub decreases-is_chosen : goal.decreases-is_chosen
decreases-is_chosen l = 4 * (node_count l.child.now + part_count l.other) + 2

abbrev pub decreases-ranges_same : goal.decreases-ranges_same
decreases-ranges_same l = 4 * (node_count l.lhs.now + node_count l.rhs.now) + 1

abbrev pub decreases-rows_same : goal.decreases-rows_same
decreases-rows_same l = 4 * (node_counts (layouts l.lhs.now) + node_counts (layouts l.rhs.now)) + 1
