use Rattle.std.proofs.Common.{◌≡◌, false, take}
use Rattle.arrow_grow_flat.specs.Grown.{any_nulls}
use Rattle.arrow_grow_flat.proofs.flat.any_array_nulls.Given as goal

abbrev pub invariant-loop-index : goal.invariant-loop-index
invariant-loop-index g l = any_nulls (take l.index (g.V.GrowableValues.seen l.values).arrays) ≡ false
