use Rattle.std.proofs.Common.{arith}
use Rattle.arrow_buffers.proofs.Copies.{copies_none, copies_more}
use Rattle.arrow_buffers.proofs.bits.copy_each.Goals as goal

pub loop-k-init : goal.loop-k-init
loop-k-init c = copies_none c.args.bytes.now.items c.args.source.now c.args.place c.args.start

pub write_bit-requires : goal.write_bit-requires
write_bit-requires c = let e = c.loop-k.invariant.bytes in omega arith

pub loop-k-preserved : goal.loop-k-preserved
loop-k-preserved c =
    copies_more c.args.bytes.now.items c.loop-k.bytes.items c.write_bit.new.bytes.items c.args.source.now c.args.place c.args.start c.loop-k.k c.bit_at-bit.result
    c.loop-k.invariant c.write_bit.ensures.len c.write_bit.ensures.bits c.bit_at-bit.ensures
