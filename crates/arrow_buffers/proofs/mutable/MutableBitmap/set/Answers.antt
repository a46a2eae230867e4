use Rattle.std.proofs.Common.{set, ap, ◌∙◌, arith}
use Rattle.arrow_buffers.proofs.Bytes.{left_length}
use Rattle.arrow_buffers.proofs.Copies.{bits_of-write}
use Rattle.arrow_buffers.proofs.mutable.MutableBitmap.set.Goals as goal

pub write_bit-requires : goal.write_bit-requires
write_bit-requires c = let n = left_length _ _ _ _ c.self.view_is in omega arith

pub returns : goal.returns
returns c =
    let n = left_length _ _ _ _ c.self.view_is in
    bits_of-write c.self.inside.bytes.items c.write_bit.new.bytes.items c.self.inside.slots c.args.i c.args.bit c.write_bit.ensures.bits (omega arith)
    ∙ ap (λ bs. set bs c.args.i c.args.bit) c.self.view_is
