use Rattle.std.proofs.Common.{ap, ◌∙◌}
use Rattle.arrow_meaning.specs.Nodes.{primitive_layout}
use Rattle.arrow_meaning.proofs.FlatLayouts.{primitives_part}
use Rattle.arrow_meaning.proofs.primitive.PrimitiveArrayFlatNode.slice.Goals as goal

pub returns-clause-part : goal.returns-clause-part
returns-clause-part g c = let parts = g.T.NativeType.parts in ap (primitive_layout parts) c.slice.ensures ∙ primitives_part parts c.args.self.now c.args.offset c.args.length
