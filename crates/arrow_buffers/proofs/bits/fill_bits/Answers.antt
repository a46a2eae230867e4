use Rattle.std.proofs.Common.{arith}
use Rattle.arrow_buffers.proofs.Copies.{fills_none, fills_more}
use Rattle.arrow_buffers.proofs.bits.fill_bits.Goals as goal

pub loop-i-init : goal.loop-i-init
loop-i-init c = fills_none c.args.bytes.now.items c.args.start c.args.bit

pub write_bit-requires : goal.write_bit-requires
write_bit-requires c = let e = c.loop-i.invariant.bytes in omega arith

pub loop-i-preserved : goal.loop-i-preserved
loop-i-preserved c =
    fills_more c.args.bytes.now.items c.loop-i.bytes.items c.write_bit.new.bytes.items c.args.start c.loop-i.i c.args.bit (omega arith) c.loop-i.invariant
    c.write_bit.ensures.len c.write_bit.ensures.bits
