use Rattle.std.proofs.Common.{map, sym}
use Rattle.arrow_buffers.proofs.Ascending.{first_at}
use Rattle.arrow_buffers.proofs.offsets.bounds_of.Goals as goal

pub returns-clause-first : goal.returns-clause-first
returns-clause-first g c = sym (first_at (map g.O.Offset.number c.args.items.now) c.number_at.result c.number_at.ensures.value)
