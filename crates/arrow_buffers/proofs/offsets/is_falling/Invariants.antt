use Rattle.std.proofs.Common.{◌≡◌, pos, drop, map}
use Rattle.arrow_buffers.specs.Offsets.{Ascend, falls}
use Rattle.arrow_buffers.proofs.offsets.is_falling.Given as goal

abbrev pub invariant-loop-item : goal.invariant-loop-item
invariant-loop-item g l = record {
  rest : falls (pos l.least) (drop l.item-index (map g.O.Offset.number l.items)) ≡ falls (pos 0) (map g.O.Offset.number l.items);
  ascend : Ascend g.O.Offset.limit (pos l.least) (drop l.item-index (map g.O.Offset.number l.items))
      → Ascend g.O.Offset.limit (pos 0) (map g.O.Offset.number l.items);
}
