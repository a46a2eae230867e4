use Rattle.std.proofs.Common.{◌≡◌, false, take}
use Rattle.arrow_grow_flat.specs.Validities.{some_nulls}
use Rattle.arrow_grow_flat.proofs.concatenate.any_has_nulls.Given as goal

abbrev pub invariant-loop-array : goal.invariant-loop-array
invariant-loop-array l = some_nulls (take l.array-index l.arrays) ≡ false
