use Rattle.std.proofs.Common.{◌≡◌, ℕ, ◌<◌, false}
use Rattle.arrow_layout.specs.Masks.{valid_in}
use Rattle.arrow_canonical.specs.OwnForm.{IsZeroAt}
use Rattle.arrow_canonical.proofs.zeros.nulls_are_zero.Given as goal

abbrev pub invariant-loop-i : goal.invariant-loop-i
invariant-loop-i g l = (k : ℕ) → k < l.i → valid_in (g.T.FlatNode.layout l.array) k ≡ false → IsZeroAt (g.T.FlatNode.layout l.array) k
