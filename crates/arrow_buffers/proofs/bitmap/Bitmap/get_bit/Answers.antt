use Rattle.arrow_buffers.specs.Bits.{bit_of}
use Rattle.std.proofs.Common.{◌+◌, length, ap, ◌∙◌, arith}
use Rattle.arrow_buffers.proofs.Bytes.{seen_length, seen_bit}
use Rattle.arrow_buffers.proofs.bitmap.Bitmap.get_bit.Goals as goal

pub overflow_add-self-inside : goal.overflow_add-self-inside
overflow_add-self-inside c = let n = seen_length _ _ _ _ c.self.view_is in omega arith

pub bit_at-requires : goal.bit_at-requires
bit_at-requires c = let n = seen_length _ _ _ _ c.self.view_is in let e = ap length c.as_slice.ensures in omega arith

pub returns : goal.returns
returns c =
    let n = seen_length _ _ _ _ c.self.view_is in
    c.bit_at.ensures ∙ ap (λ bs. bit_of bs (c.self.inside.start + c.args.i)) c.as_slice.ensures ∙ seen_bit _ _ _ _ _ c.self.view_is (omega arith)
