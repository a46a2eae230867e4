-- What a node that is made of picked slots is.
use Rattle.std.specs.Prelude.{◌≡◌}
use Rattle.arrow_types.specs.declared.datatype.PhysicalType.{PhysicalType}
use Rattle.arrow_layout.specs.Fits.{Fits}
use Rattle.arrow_layout.specs.Layouts.{Layout}
use Rattle.arrow_meaning.specs.Nodes.{layout_of, node_physical}
use Rattle.arrow_meaning.specs.declared.node.Node.{Node}

-- Of the physical type and with the layout, which fits.
pub record IsMade (p : PhysicalType) (l : Layout) (n : Node) : Type 0 where
  pub same : layout_of n ≡ l
  pub kind : node_physical n ≡ p
  pub fits : Fits l
