use Rattle.std.proofs.Common.{◌≡◌, ◌↔◌, ◌^◌, ◌<◌, drop, map}
use Rattle.arrow_flat.specs.Natives.{octets}
use Rattle.arrow_flat.specs.Packs.{AreInOrder, view_limit}
use Rattle.arrow_canonical.specs.OwnForm.{RestInOrder}
use Rattle.arrow_canonical.proofs.view.are_in_order.Given as goal

abbrev pub invariant-loop-i : goal.invariant-loop-i
invariant-loop-i l =
    (RestInOrder (map octets l.buffers) l.buffer l.end (drop l.i l.views) ↔ AreInOrder view_limit (map octets l.buffers) l.views) × (l.end ≡ 0 → l.buffer ≡ 0)
    × (l.buffer < 2 ^ 32) × (l.end < 2 ^ 34)
