use Rattle.std.proofs.Common.{◌*◌, ◌+◌, ap, ◌∙◌, arith}
use Rattle.std.specs.Int.{bit_at}
use Rattle.arrow_buffers.proofs.Copies.{bit_at-shifted}
use Rattle.arrow_buffers.proofs.bits.joined.Goals as goal

pub returns : goal.returns
returns c = λ k h.
    bit_at-shifted (256 * c.from.result + c.from-2.result) c.args.shift k h
    ∙ ap (λ n. bit_at n (c.args.shift + k)) (omega arith)
