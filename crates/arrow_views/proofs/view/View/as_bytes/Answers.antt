use Rattle.std.proofs.Common.{ap, sym, ◌∙◌, subst}
use Rattle.arrow_views.specs.ViewParts.{bytes_of, IsPlaced}
use Rattle.arrow_views.specs.ViewBytes.{bytes_back, placed}
use Rattle.arrow_views.proofs.view.View.as_bytes.Goals as goal

pub returns-clause-bytes : goal.returns-clause-bytes
returns-clause-bytes c = sym (bytes_back c.self.inside.bytes c.self.invariant.0 c.self.invariant.1) ∙ ap bytes_of c.self.view_is

pub returns-clause-placed : goal.returns-clause-placed
returns-clause-placed c = subst IsPlaced c.self.view_is (placed c.self.inside.bytes c.self.invariant.0 c.self.invariant.1)
