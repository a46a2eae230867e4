use Rattle.std.proofs.Common.{◌≡◌, ◌<◌, ◌^◌, length, take}
use Rattle.arrow_grow_flat.specs.SharedViews.{joined_buffers}
use Rattle.arrow_grow_flat.proofs.view.has_few_buffers.Given as goal

abbrev pub invariant-loop-array : goal.invariant-loop-array
invariant-loop-array g l = record {
  counted : l.total ≡ length (joined_buffers (take l.array-index l.arrays));
  few : l.total < 2 ^ 32;
}
