use Rattle.arrow_views.specs.ViewArrays.{physical_view}
use Rattle.arrow_meaning.specs.Nodes.{view_layout}
use Rattle.arrow_meaning.proofs.Variants.{found_as}
use Rattle.arrow_meaning.proofs.array.ArrayRef.as_view.Goals as goal

pub returns : goal.returns
returns g c =
    found_as c.view_of.result c.node.result.now c.args.self.now (physical_view g.T.ViewType.IS_TEXT) (λ a. view_layout a.now)
    c.node.ensures.same c.node.ensures.kind c.view_of.ensures
