use Rattle.std.proofs.Common.{length, ap, sym, ◌∙◌, arith}
use Rattle.std.proofs.lemmas.Grind.{common_steps}
use Rattle.arrow_buffers.proofs.Bytes.{left_first}
use Rattle.arrow_buffers.proofs.iter.BitmapIterIterator.next.Goals as goal

pub returns-clause-steps : goal.returns-clause-steps
returns-clause-steps c = sym c.self.view_is ∙ left_first c.self.inside.bytes.now c.self.inside.front c.self.inside.back c.bit_at-bit.result c.bit_at-bit.ensures (omega arith)

pub returns-clause-goes : goal.returns-clause-goes
returns-clause-goes c = let e = ap length (returns-clause-steps c) in grind (arith, common_steps)
