use Rattle.std.proofs.Common.{◌*◌, arith}
use Rattle.arrow_buffers.proofs.Copies.{copies_none, copies_byte}
use Rattle.arrow_buffers.proofs.bits.copy_bytes.Goals as goal

pub loop-j-init : goal.loop-j-init
loop-j-init c = copies_none c.args.bytes.now.items c.args.source.now (8 * c.args.first) c.args.start

pub loop-j-preserved : goal.loop-j-preserved
loop-j-preserved c =
    copies_byte c.args.bytes.now.items c.loop-j.bytes.items c.args.source.now c.args.first c.args.start c.loop-j.j c.byte_at-byte.result
    c.loop-j.invariant (let e = c.loop-j.invariant.bytes in omega arith) c.byte_at-byte.ensures
