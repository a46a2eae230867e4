use Rattle.std.proofs.Common.{ℕ, ◌+◌, ◌<◌}
use Rattle.arrow_canonical.specs.Filled.{IsFilledAt}
use Rattle.arrow_canonical.proofs.fill.are_like.Given as goal

abbrev pub invariant-loop-i : goal.invariant-loop-i
invariant-loop-i l = (k : ℕ) → k < l.i → IsFilledAt l.child (l.start + k)
