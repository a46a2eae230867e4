use Rattle.std.proofs.Common.{◌≡◌, take}
use Rattle.arrow_grow_flat.specs.Validities.{joined_bits}
use Rattle.arrow_grow_flat.proofs.concatenate.joined_masks.Given as goal

abbrev pub invariant-loop-array : goal.invariant-loop-array
invariant-loop-array l = l.bits ≡ joined_bits (take l.array-index l.arrays)
