use Rattle.std.proofs.Common.{◌≡◌, ◌+◌, ◌-◌, ◌≤◌, ◌++◌, take, map, length, vec_len}
use Rattle.std.specs.Vec.{vec_capacity}
use Rattle.arrow_buffers.specs.Offsets.{moved}
use Rattle.arrow_buffers.proofs.offsets.push_moved.Given as goal

abbrev pub invariant-loop-other : goal.invariant-loop-other
invariant-loop-other g l = record {
  made : map g.O.Offset.number l.items.items
      ≡ map g.O.Offset.number l.initial.items.items ++ moved l.first l.end (map g.O.Offset.number (take l.other-index l.others));
  room : vec_len l.items + (length l.others - l.other-index) ≤ vec_capacity l.items;
}
