-- No child of a node is made of as many arrays as the node.
use Rattle.std.specs.Prelude.{◌+◌, ◌≤◌, max, List, [], ◌∷◌, Some, None}
use Rattle.std.proofs.Common.{arith}
use denote.Param.Weighed.{most}
use Rattle.arrow_layout.specs.Layouts.{Layout, layouts}
use Rattle.arrow_layout.specs.NodeCount.{node_count, node_counts}
use Rattle.arrow_meaning.specs.Nodes.{layout_of}
use Rattle.arrow_meaning.specs.declared.node.Node.{Node}
use Rattle.arrow_meaning.specs.declared.node.Node.TheVariants as node
use Rattle.arrow_meaning.specs.declared.array.ArrayRef.TheDeep.{deep-Node}

pub most_le-node_count : (ls : List Layout) → most (λ l. node_count l + 1) ls ≤ node_counts (layouts ls) + 1
most_le-node_count [] = omega arith
most_le-node_count (l ∷ ls) = omega (arith, most_le-node_count ls)

pub deep_le_node_count : (n : Node) → max (deep-Node n) 0 ≤ node_count (layout_of n)
deep_le_node_count (node.Struct t n ls m) = omega (arith, most_le-node_count ls.items)
deep_le_node_count (node.Union t ts None ls s) = omega (arith, most_le-node_count ls.items)
deep_le_node_count (node.Union t ts (Some os) ls s) = omega (arith, most_le-node_count ls.items)
deep_le_node_count (node.List t os l m) = omega arith
deep_le_node_count (node.LargeList t os l m) = omega arith
deep_le_node_count (node.Map t os l m) = omega arith
deep_le_node_count (node.FixedSizeList t k n l m) = omega arith
deep_le_node_count (node.Dictionary t ks l) = omega arith
deep_le_node_count (node.Null t n) = omega arith
deep_le_node_count (node.Boolean a) = omega arith
deep_le_node_count (node.Binary a) = omega arith
deep_le_node_count (node.LargeBinary a) = omega arith
deep_le_node_count (node.Utf8 a) = omega arith
deep_le_node_count (node.LargeUtf8 a) = omega arith
deep_le_node_count (node.FixedSizeBinary a) = omega arith
deep_le_node_count (node.BinaryView a) = omega arith
deep_le_node_count (node.Utf8View a) = omega arith
deep_le_node_count (node.Primitive a) = omega arith
