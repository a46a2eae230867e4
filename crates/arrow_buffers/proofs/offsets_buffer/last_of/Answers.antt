use Rattle.std.proofs.Common.{length, refl}
use Rattle.arrow_buffers.proofs.Ascending.{number_end}
use Rattle.arrow_buffers.proofs.offsets_buffer.last_of.Goals as goal

pub returns-clause-number : goal.returns-clause-number
returns-clause-number g c = number_end g.O.Offset.number g.O.Offset.limit c.args.items.now c.index-items-items.result (length c.args.items.now) c.requires refl c.index-items-items.is
