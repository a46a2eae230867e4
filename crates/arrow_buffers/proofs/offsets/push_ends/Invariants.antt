use Rattle.std.proofs.Common.{◌≡◌, ◌+◌, ◌-◌, ◌≤◌, ◌++◌, take, map, sum, length, vec_len}
use Rattle.std.specs.Vec.{vec_capacity}
use Rattle.arrow_buffers.specs.Offsets.{ends}
use Rattle.arrow_buffers.proofs.offsets.push_ends.Given as goal

abbrev pub invariant-loop-length : goal.invariant-loop-length
invariant-loop-length g l = record {
  at_end : l.end ≡ l.start + sum (take l.length-index l.lengths);
  made : map g.O.Offset.number l.items.items ≡ map g.O.Offset.number l.initial.items.items ++ ends l.start (take l.length-index l.lengths);
  room : vec_len l.items + (length l.lengths - l.length-index) ≤ vec_capacity l.items;
}
