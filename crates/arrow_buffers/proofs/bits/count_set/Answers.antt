use Rattle.std.proofs.Common.{◌+◌, ◌-◌, ◌*◌, ◌/◌, ap, ◌∙◌, arith}
use Rattle.arrow_buffers.specs.Bits.{ones_of}
use Rattle.arrow_buffers.proofs.Bytes.{ones_parts}
use Rattle.arrow_buffers.proofs.bits.count_set.Goals as goal

pub returns-clause-value : goal.returns-clause-value
returns-clause-value c =
    ap (λ x. x + c.count_bytes-whole.result + c.count_each-after.result) c.count_each-before.ensures.value
    ∙ ap (λ x. ones_of c.args.bytes.now c.args.start (8 * c.div_ceil-first.result - c.args.start) + x + c.count_each-after.result) c.count_bytes-whole.ensures.value
    ∙ ap (λ x. ones_of c.args.bytes.now c.args.start (8 * c.div_ceil-first.result - c.args.start) + ones_of c.args.bytes.now (8 * c.div_ceil-first.result) (8 * (c.args.end / 8 - c.div_ceil-first.result)) + x) c.count_each-after.ensures.value
    ∙ ones_parts c.args.bytes.now c.args.start c.args.end c.div_ceil-first.result (c.args.end / 8) (omega arith) (omega arith) (omega arith)
