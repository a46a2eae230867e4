use Rattle.std.proofs.Common.{ℕ, suc, ◌-◌, ◌<◌, ◌≤◌, length, get_or}
use Rattle.arrow_flat.specs.Natives.{octets}
use Rattle.arrow_views.specs.TextEnds.{EndsAround}
use Rattle.arrow_views.proofs.text_ends.text_ends.Given as goal

abbrev pub invariant-loop-ends : goal.invariant-loop-ends
invariant-loop-ends l =
    (length l.ends.items ≤ suc (length l.bytes)) × ((i : ℕ) → i < length l.ends.items → EndsAround (octets l.bytes) i (get_or l.ends.items i 0))

abbrev pub decreases-loop-ends : goal.decreases-loop-ends
decreases-loop-ends l = suc (length l.bytes) - length l.ends.items
