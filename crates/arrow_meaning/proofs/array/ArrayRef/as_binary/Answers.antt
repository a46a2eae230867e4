use Rattle.std.proofs.Common.{false}
use Rattle.arrow_bytes.specs.Binaries.{layout_in}
use Rattle.arrow_meaning.specs.Nodes.{binary_layout}
use Rattle.arrow_meaning.proofs.Variants.{found_as}
use Rattle.arrow_meaning.proofs.array.ArrayRef.as_binary.Goals as goal

pub returns : goal.returns
returns g c =
    found_as c.binary_of.result c.node.result.now c.args.self.now (layout_in false g.O.Offset.IS_LARGE) (λ a. binary_layout g.O.Offset.number a.now)
    c.node.ensures.same c.node.ensures.kind c.binary_of.ensures
