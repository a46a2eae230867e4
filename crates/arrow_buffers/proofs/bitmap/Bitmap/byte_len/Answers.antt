use Rattle.std.proofs.Common.{length, sym, ◌∙◌, arith}
use Rattle.arrow_buffers.proofs.Bytes.{seen_length, seen_lead, bytes_of_some}
use Rattle.arrow_buffers.proofs.bitmap.Bitmap.byte_len.Goals as goal

pub returns : goal.returns
returns c =
    let n = seen_length _ _ _ _ c.self.view_is in
    let l = seen_lead _ _ _ _ c.self.view_is c.if-self-eq0.false in
    let bits = c.args.self.now.bits in
    let e = bytes_of_some c.args.self.now.lead (length bits) (λ z. c.if-self-eq0.false (sym n ∙ z)) in
    omega (arith, e)
