use Rattle.std.proofs.Common.{◌≡◌, ◌+◌, ◌^◌, ◌≤◌, ◌++◌}
use Rattle.arrow_grow_flat.specs.SharedViews.{byte_count, slot_values, slot_views}
use Rattle.arrow_grow_flat.proofs.view.push_shared.Given as goal

abbrev pub invariant-loop-i : goal.invariant-loop-i
invariant-loop-i g l = record {
  more : l.views.items ≡ l.initial.views.items ++ slot_views l.first l.array l.start l.i;
  counted : l.total ≡ l.before + byte_count (slot_values l.array l.start l.i);
  within : l.total ≤ 2 ^ 62;
}
