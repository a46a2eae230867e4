use Rattle.std.proofs.Common.{◌≡◌, ℕ, ◌<◌, ◌+◌, ◌*◌, get_or}
use Rattle.arrow_layout.specs.Canonical.{Canonical}
use Rattle.arrow_layout.specs.Layouts.{Layout, layouts}
use Rattle.arrow_layout.specs.NodeCount.{node_count, node_counts}
use Rattle.arrow_canonical.proofs.canonical.+whole.Given as goal

abbrev pub invariant-test_children-loop-k : goal.invariant-test_children-loop-k
invariant-test_children-loop-k l = (k : ℕ) → k < l.k → (c : Layout) → c ≡ get_or l.children k c → Canonical c

abbrev pub decreases-test_canonical : goal.decreases-test_canonical
decreases-test_canonical l = 2 * node_count l.array.now

abbrev pub decreases-test_children : goal.decreases-test_children
decreases-test_children l = 2 * node_counts (layouts l.children.now) + 1
