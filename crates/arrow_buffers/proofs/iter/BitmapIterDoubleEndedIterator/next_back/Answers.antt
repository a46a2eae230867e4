use Rattle.std.proofs.Common.{length, ap, sym, ◌∙◌, arith}
use Rattle.std.proofs.lemmas.Grind.{common_steps}
use Rattle.arrow_buffers.proofs.Bytes.{left_last}
use Rattle.arrow_buffers.proofs.iter.BitmapIterDoubleEndedIterator.next_back.Goals as goal

pub returns-clause-steps : goal.returns-clause-steps
returns-clause-steps c = sym c.self.view_is ∙ left_last c.self.inside.bytes.now c.self.inside.front c.self.inside.back c.bit_at.result c.bit_at.ensures (omega arith)

pub returns-clause-goes : goal.returns-clause-goes
returns-clause-goes c = let e = ap length (returns-clause-steps c) in grind (arith, common_steps)
