use Rattle.std.proofs.Common.{◌+◌, ◌-◌, ◌/◌, ◌%◌, arith}
use Rattle.arrow_buffers.proofs.Copies.{copies_parts}
use Rattle.arrow_buffers.proofs.bits.copy_bits.Goals as goal

pub returns : goal.returns
returns c =
    let place = c.args.place in
    let head = (8 - place % 8) % 8 in
    copies_parts c.args.bytes.now.items c.copy_each-2.new.bytes.items c.copy_bytes.new.bytes.items c.copy_each-3.new.bytes.items c.args.source.now
    place c.args.start head ((place + head) / 8) ((c.args.len - head) / 8) c.args.len (omega arith) (omega arith)
    c.copy_each-2.ensures c.copy_bytes.ensures c.copy_each-3.ensures
