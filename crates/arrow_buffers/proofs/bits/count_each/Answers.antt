use Rattle.std.specs.Int.{from_bool}
use Rattle.std.proofs.Common.{◌≡◌, ◌+◌, ◌-◌, ◌≤◌, cond, ap, sym, ◌∙◌, arith, subst}
use Rattle.arrow_buffers.specs.Bits.{ones_of}
use Rattle.arrow_buffers.proofs.Bytes.{ones_more, bool_number, ones_at_most}
use Rattle.arrow_buffers.proofs.bits.count_each.Goals as goal

pub loop-i-preserved : goal.loop-i-preserved
loop-i-preserved c =
    let n : c.loop-i.i + 1 - c.args.start ≡ c.loop-i.i - c.args.start + 1 = omega arith in
    let m = ones_more c.args.bytes.now c.args.start (c.loop-i.i - c.args.start) c.loop-i.i (omega arith) in
    let v = ap (λ t. t + from_bool c.bit_at-bit.result) c.loop-i.invariant.value
    ∙ ap (λ x. ones_of c.args.bytes.now c.args.start (c.loop-i.i - c.args.start) + x) (bool_number c.bit_at-bit.result)
    ∙ ap (λ b. ones_of c.args.bytes.now c.args.start (c.loop-i.i - c.args.start) + cond b 1 0) c.bit_at-bit.ensures
    ∙ sym m ∙ ap (ones_of c.args.bytes.now c.args.start) (sym n) in
    record {
      value = v;
      fits = subst (λ t. t ≤ c.loop-i.i + 1 - c.args.start) (sym v) (ones_at_most c.args.bytes.now c.args.start (c.loop-i.i + 1 - c.args.start));
    }
