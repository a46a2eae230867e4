use Rattle.std.proofs.Common.{◌≡◌, ℕ, ◌<◌, false, get_or}
use Rattle.std.specs.Prelude.{nat_eq}
use Rattle.arrow_canonical.specs.Filled.{IsFilledAt}
use Rattle.arrow_canonical.proofs.fill.others_are_like.Given as goal

abbrev pub invariant-loop-i : goal.invariant-loop-i
invariant-loop-i l = (k : ℕ) → k < l.i → nat_eq (get_or l.fields k 0) l.j ≡ false → IsFilledAt l.child k
