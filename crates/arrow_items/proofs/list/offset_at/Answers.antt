use Rattle.std.proofs.Common.{arith}
use Rattle.std.proofs.lemmas.Int.{ints}
use Rattle.arrow_buffers.proofs.Ascending.{number_bounds}
use Rattle.arrow_items.proofs.ListItems.{offset_number}
use Rattle.arrow_items.proofs.list.offset_at.Goals as goal

pub to_usize-requires : goal.to_usize-requires
to_usize-requires g c =
    let b = (number_bounds g.O.Offset.number g.O.Offset.limit c.args.offsets.now c.args.i c.index-offsets-i.result c.requires.sound c.requires.within c.index-offsets-i.is).0 in
    omega (arith, ints)

pub returns : goal.returns
returns g c =
    offset_number g.O.Offset.number g.O.Offset.limit c.args.offsets.now c.requires.sound c.args.i c.to_usize.result c.index-offsets-i.result c.requires.within c.index-offsets-i.is
    c.to_usize.ensures.value
