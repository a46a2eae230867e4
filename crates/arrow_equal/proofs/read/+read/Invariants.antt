use Rattle.std.proofs.Common.{◌+◌, ◌*◌}
use Rattle.arrow_layout.specs.NodeCount.{node_count}
use Rattle.arrow_equal.proofs.read.+read.Given as goal

-- the arrays that the array is made of, and at one array the order in which the two call each other
abbrev pub decreases-parts_at : goal.decreases-parts_at
decreases-parts_at l = 2 * node_count l.array.now + 1

abbrev pub decreases-valid_parts : goal.decreases-valid_parts
decreases-valid_parts l = 2 * node_count l.array.now
