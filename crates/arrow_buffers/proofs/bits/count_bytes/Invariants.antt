use Rattle.std.proofs.Common.{◌≡◌, ◌-◌, ◌*◌, ◌≤◌}
use Rattle.arrow_buffers.specs.Bits.{ones_of}
use Rattle.arrow_buffers.proofs.bits.count_bytes.Given as goal

abbrev pub invariant-loop-i : goal.invariant-loop-i
invariant-loop-i l = record { value : l.total ≡ ones_of l.bytes (8 * l.first) (8 * (l.i - l.first)); fits : l.total ≤ 8 * (l.i - l.first) }
