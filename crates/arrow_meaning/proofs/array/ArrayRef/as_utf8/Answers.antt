use Rattle.std.proofs.Common.{true}
use Rattle.arrow_bytes.specs.Binaries.{layout_in}
use Rattle.arrow_meaning.specs.Nodes.{binary_layout}
use Rattle.arrow_meaning.proofs.Variants.{found_as}
use Rattle.arrow_meaning.proofs.array.ArrayRef.as_utf8.Goals as goal

pub returns : goal.returns
returns g c =
    found_as c.utf8_of.result c.node.result.now c.args.self.now (layout_in true g.O.Offset.IS_LARGE) (λ a. binary_layout g.O.Offset.number a.now)
    c.node.ensures.same c.node.ensures.kind c.utf8_of.ensures
