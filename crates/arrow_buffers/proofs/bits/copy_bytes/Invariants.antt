use Rattle.std.proofs.Common.{◌*◌}
use Rattle.arrow_buffers.specs.Writes.{CopiesBits}
use Rattle.arrow_buffers.proofs.bits.copy_bytes.Given as goal

abbrev pub invariant-loop-j : goal.invariant-loop-j
invariant-loop-j l = CopiesBits l.initial.bytes.items l.bytes.items (8 * l.first) l.source l.start (8 * l.j)
