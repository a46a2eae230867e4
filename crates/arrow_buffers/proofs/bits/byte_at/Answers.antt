use Rattle.std.proofs.Common.{◌+◌, ◌/◌, nat_eq, get_or, refl, ap, ◌∙◌, arith}
use Rattle.arrow_buffers.proofs.Copies.{pair_bit, byte_bit}
use Rattle.arrow_buffers.proofs.bits.byte_at.Goals as goal

pub returns-then-i-eq0 : goal.returns-then-i-eq0
returns-then-i-eq0 c = λ k h. byte_bit c.args.bytes.now c.args.i k (get_or c.args.bytes.now (c.args.i / 8) 0) h c.if-i-eq0.true refl

pub returns : goal.returns
returns c = λ k h.
    let bytes = c.args.bytes.now in
    let low = get_or bytes (c.args.i / 8) 0 in
    let high = get_or bytes (c.args.i / 8 + 1) 0 in
    let f = c.type_inv.bytes (c.args.i / 8) in
    ap (λ x. nat_eq x 1) (c.joined.ensures k h) ∙ pair_bit bytes c.args.i k low high h (omega arith) refl refl
