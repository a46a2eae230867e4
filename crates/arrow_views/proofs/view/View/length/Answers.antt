use Rattle.std.proofs.Common.{ap, ◌∙◌, subst}
use Rattle.arrow_flat.specs.Views.{view_length}
use Rattle.arrow_views.specs.ViewParts.{IsPlaced}
use Rattle.arrow_views.specs.ViewBytes.{placed, length_read}
use Rattle.arrow_views.proofs.view.View.length.Goals as goal

pub returns-clause-value : goal.returns-clause-value
returns-clause-value c = c.number.ensures ∙ length_read c.self.inside.bytes ∙ ap view_length c.self.view_is

pub returns-clause-placed : goal.returns-clause-placed
returns-clause-placed c = subst IsPlaced c.self.view_is (placed c.self.inside.bytes c.self.invariant.0 c.self.invariant.1)
