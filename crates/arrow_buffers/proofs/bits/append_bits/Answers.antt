use Rattle.std.proofs.Common.{arith}
use Rattle.arrow_buffers.proofs.Copies.{bits_appended}
use Rattle.arrow_buffers.proofs.bits.append_bits.Goals as goal

pub returns-clause-ok : goal.returns-clause-ok
returns-clause-ok c =
    bits_appended c.args.bytes.now.items c.resize.new.self.items c.copy_bits.new.bytes.items c.args.source.now c.args.slots c.args.start c.args.len
    c.div_ceil.result _ (omega arith) c.requires.target.0 c.in_ok-resize.ensures.items (let e = c.args.bytes.now.ok.0 in omega arith) c.copy_bits.ensures
