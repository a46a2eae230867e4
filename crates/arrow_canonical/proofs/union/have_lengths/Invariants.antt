use Rattle.std.proofs.Common.{◌≡◌, ℕ, ◌<◌, get_or}
use Rattle.arrow_layout.specs.Layouts.{Layout, length_of}
use Rattle.arrow_canonical.proofs.union.have_lengths.Given as goal

abbrev pub invariant-loop-k : goal.invariant-loop-k
invariant-loop-k l = (k : ℕ) → k < l.k → (c : Layout) → c ≡ get_or l.children k c → length_of c ≡ get_or l.counts k 0
