use Rattle.std.proofs.Common.{map}
use Rattle.arrow_flat.specs.Natives.{octets}
use Rattle.arrow_views.proofs.check.is_view.Goals as goal

pub returns-then-length-le12 : goal.returns-then-length-le12
returns-then-length-le12 c = c.is_padded.ensures (map octets c.args.buffers.now)
