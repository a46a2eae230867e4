use Rattle.std.proofs.Common.{map}
use Rattle.arrow_canonical.proofs.Flats.{empty_is}
use Rattle.arrow_canonical.proofs.binary.is_empty.Goals as goal

pub returns : goal.returns
returns g c =
    empty_is (map g.O.Offset.number c.args.offsets.now) c.args.i c.start_end-start.result.0 c.start_end-start.result.1 c.start_end-start.ensures.start c.start_end-start.ensures.end
