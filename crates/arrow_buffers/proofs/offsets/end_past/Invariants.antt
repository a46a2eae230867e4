use Rattle.std.proofs.Common.{◌≡◌, ◌+◌, take, sum}
use Rattle.arrow_buffers.specs.Offsets.{to_nat}
use Rattle.arrow_buffers.proofs.offsets.end_past.Given as goal

abbrev pub invariant-loop-length : goal.invariant-loop-length
invariant-loop-length g l = l.total ≡ to_nat (g.O.Offset.number l.fn.last) + sum (take l.length-index l.lengths)
