use Rattle.std.proofs.lemmas.Nat.Bits.{bit_at_set_same, bit_at_set_other, bit_at_clear_same, bit_at_clear_other}
use Rattle.std.proofs.Common.{cond, ap, sym, ◌∙◌, w8}
use Rattle.arrow_buffers.proofs.bits.with_bit.Goals as goal

pub returns-then-bit-clause-same : goal.returns-then-bit-clause-same
returns-then-bit-clause-same c = bit_at_set_same w8 c.args.byte c.args.at c.requires ∙ ap (λ b. cond b 1 0) (sym c.if-bit.true)

pub returns-then-bit-clause-others : goal.returns-then-bit-clause-others
returns-then-bit-clause-others c = λ k n h. bit_at_set_other w8 c.args.byte c.args.at c.requires k n

pub returns-else-bit-clause-same : goal.returns-else-bit-clause-same
returns-else-bit-clause-same c = bit_at_clear_same w8 c.args.byte c.args.at c.requires ∙ ap (λ b. cond b 1 0) (sym c.if-bit.false)

pub returns-else-bit-clause-others : goal.returns-else-bit-clause-others
returns-else-bit-clause-others c = λ k n h. bit_at_clear_other w8 c.args.byte c.args.at c.requires k h n
