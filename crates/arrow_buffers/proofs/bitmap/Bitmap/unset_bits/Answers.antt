use Rattle.std.proofs.Common.{◌-◌, length, ap, sym, ◌∙◌, arith}
use Rattle.arrow_buffers.proofs.Bytes.{seen_length, unset_rest}
use Rattle.arrow_buffers.proofs.bitmap.Bitmap.unset_bits.Goals as goal

pub overflow_sub-result : goal.overflow_sub-result
overflow_sub-result c = let n = seen_length _ _ _ _ c.self.view_is in omega arith

pub returns : goal.returns
returns c =
    let n = seen_length _ _ _ _ c.self.view_is in
    ap (λ k. k - c.set_bits.result) (sym n) ∙ ap (λ k. length c.args.self.now.bits - k) c.set_bits.ensures.value ∙ unset_rest c.args.self.now.bits
