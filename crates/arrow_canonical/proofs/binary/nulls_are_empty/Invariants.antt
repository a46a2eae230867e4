use Rattle.std.proofs.Common.{◌≡◌, ℕ, ◌<◌, false, map}
use Rattle.std.specs.Option.{option_copied}
use Rattle.arrow_types.specs.Select.{nat_of}
use Rattle.arrow_flat.specs.Primitives.{valid_at}
use Rattle.arrow_canonical.specs.OwnForm.{IsEmptyAt}
use Rattle.arrow_canonical.proofs.binary.nulls_are_empty.Given as goal

abbrev pub invariant-loop-i : goal.invariant-loop-i
invariant-loop-i g l = (k : ℕ) → k < l.i → valid_at (option_copied l.validity) k ≡ false → IsEmptyAt (map nat_of (map g.O.Offset.number l.offsets)) k
