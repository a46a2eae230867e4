use Rattle.std.proofs.Common.{◌≡◌, ◌+◌, ◌^◌, ◌≤◌, drop, length, take}
use Rattle.arrow_flat.specs.Packs.{view_limit}
use Rattle.arrow_grow_flat.specs.SharedViews.{AreViewsOf, KeepViews, byte_count, slot_values}
use Rattle.arrow_grow_flat.proofs.view.push_packed.Given as goal

abbrev pub invariant-loop-i : goal.invariant-loop-i
invariant-loop-i g l = record {
  limit : l.packer.limit ≡ view_limit;
  keep : KeepViews l.initial.packer.buffers l.packer.buffers;
  front : take (length l.initial.views.items) l.views.items ≡ l.initial.views.items;
  more : AreViewsOf l.packer.buffers (drop (length l.initial.views.items) l.views.items) (slot_values l.array l.start l.i);
  counted : l.total ≡ l.before + byte_count (slot_values l.array l.start l.i);
  within : l.total ≤ 2 ^ 62;
}
