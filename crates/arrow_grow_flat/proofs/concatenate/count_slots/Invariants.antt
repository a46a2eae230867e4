use Rattle.std.proofs.Common.{◌≡◌, ◌<◌, ◌^◌, take}
use Rattle.arrow_grow_flat.specs.Validities.{total_length}
use Rattle.arrow_grow_flat.proofs.concatenate.count_slots.Given as goal

abbrev pub invariant-loop-array : goal.invariant-loop-array
invariant-loop-array l = record {
  total : l.total ≡ total_length (take l.array-index l.arrays);
  few : l.total < 2 ^ 64;
}
