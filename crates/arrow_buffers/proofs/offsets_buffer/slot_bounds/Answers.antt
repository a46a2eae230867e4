use Rattle.std.proofs.Common.{map, arith}
use Rattle.std.proofs.lemmas.List.{length-map}
use Rattle.arrow_buffers.proofs.Ascending.{read_step}
use Rattle.arrow_buffers.proofs.offsets_buffer.slot_bounds.Goals as goal

pub returns-clause-ordered : goal.returns-clause-ordered
returns-clause-ordered g c =
    let number = g.O.Offset.number in
    let items = c.args.items.now in
    let m = length-map items number in
    let w = c.requires.within in
    read_step g.O.Offset.limit (map number items) c.args.i c.number_at.result c.number_at-2.result c.requires.sound
    (omega arith) c.number_at.ensures.value c.number_at-2.ensures.value
