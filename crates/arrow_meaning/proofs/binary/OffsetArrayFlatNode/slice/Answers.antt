use Rattle.std.proofs.Common.{ap, ◌∙◌}
use Rattle.arrow_meaning.specs.Nodes.{binary_layout}
use Rattle.arrow_meaning.proofs.FlatLayouts.{binaries_part}
use Rattle.arrow_meaning.proofs.binary.OffsetArrayFlatNode.slice.Goals as goal

pub returns-clause-part : goal.returns-clause-part
returns-clause-part g c = let number = g.O.Offset.number in ap (binary_layout number) c.slice.ensures ∙ binaries_part number c.args.self.now c.args.offset c.args.length
