use Rattle.std.proofs.Common.{◌≡◌, ◌-◌, ◌≤◌}
use Rattle.arrow_buffers.specs.Bits.{ones_of}
use Rattle.arrow_buffers.proofs.bits.count_each.Given as goal

abbrev pub invariant-loop-i : goal.invariant-loop-i
invariant-loop-i l = record { value : l.total ≡ ones_of l.bytes l.start (l.i - l.start); fits : l.total ≤ l.i - l.start }
