use Rattle.arrow_buffers.specs.Writes.{FillsBits}
use Rattle.arrow_buffers.proofs.bits.fill_bits.Given as goal

abbrev pub invariant-loop-i : goal.invariant-loop-i
invariant-loop-i l = FillsBits l.initial.bytes.items l.bytes.items l.start l.i l.bit
