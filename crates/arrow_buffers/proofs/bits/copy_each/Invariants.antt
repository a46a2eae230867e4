use Rattle.arrow_buffers.specs.Writes.{CopiesBits}
use Rattle.arrow_buffers.proofs.bits.copy_each.Given as goal

abbrev pub invariant-loop-k : goal.invariant-loop-k
invariant-loop-k l = CopiesBits l.initial.bytes.items l.bytes.items l.place l.source l.start l.k
