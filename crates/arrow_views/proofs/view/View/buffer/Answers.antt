use Rattle.std.proofs.Common.{ap, ◌∙◌}
use Rattle.arrow_views.specs.ViewParts.{buffer_of}
use Rattle.arrow_views.specs.ViewBytes.{buffer_at}
use Rattle.arrow_views.proofs.view.View.buffer.Goals as goal

pub returns : goal.returns
returns c = c.number.ensures ∙ buffer_at c.self.inside.bytes ∙ ap buffer_of c.self.view_is
