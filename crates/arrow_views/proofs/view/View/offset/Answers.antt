use Rattle.std.proofs.Common.{ap, ◌∙◌}
use Rattle.arrow_views.specs.ViewParts.{offset_of}
use Rattle.arrow_views.specs.ViewBytes.{offset_at}
use Rattle.arrow_views.proofs.view.View.offset.Goals as goal

pub returns : goal.returns
returns c = c.number.ensures ∙ offset_at c.self.inside.bytes ∙ ap offset_of c.self.view_is
