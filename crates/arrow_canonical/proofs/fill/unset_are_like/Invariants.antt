use Rattle.std.proofs.Common.{◌≡◌, ℕ, ◌*◌, ◌<◌, false, get_or}
use Rattle.arrow_canonical.specs.Filled.{AreFilled}
use Rattle.arrow_canonical.proofs.fill.unset_are_like.Given as goal

abbrev pub invariant-loop-i : goal.invariant-loop-i
invariant-loop-i l = (k : ℕ) → k < l.i → get_or l.bits.bits k false ≡ false → AreFilled l.child (k * l.size) l.size
