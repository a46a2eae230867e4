use Rattle.std.proofs.Common.{◌≡◌, map, take}
use Rattle.arrow_flat.specs.Natives.{octets}
use Rattle.arrow_grow_flat.specs.SharedViews.{buffer_starts, joined_buffers}
use Rattle.arrow_grow_flat.proofs.view.push_all_buffers.Given as goal

abbrev pub invariant-loop-array : goal.invariant-loop-array
invariant-loop-array g l = record {
  starts : l.starts.items ≡ buffer_starts 0 (take l.array-index l.arrays);
  joined : map octets l.buffers.items ≡ joined_buffers (take l.array-index l.arrays);
}
