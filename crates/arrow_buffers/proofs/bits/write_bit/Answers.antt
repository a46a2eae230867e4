use Rattle.std.specs.Int.{bit_at as bit_in}
use Rattle.std.proofs.Common.{◌≡◌, ◌/◌, get_or, ap, ◌∙◌, arith}
use Rattle.std.proofs.lemmas.Grind.{common_steps, elements}
use Rattle.arrow_buffers.proofs.Bytes.{written}
use Rattle.arrow_buffers.proofs.bits.write_bit.Goals as goal

pub returns-clause-bits : goal.returns-clause-bits
returns-clause-bits c = λ k.
    let e : c.index.result.now ≡ get_or c.args.bytes.now.items (c.args.i / 8) 0 = grind (arith, common_steps, elements) in
    written c.args.bytes.now.items c.args.i k c.with_bit.result c.args.bit (omega arith) c.with_bit.ensures.same
    (λ j n l. c.with_bit.ensures.others j n l ∙ ap (λ b. bit_in b j) e)
