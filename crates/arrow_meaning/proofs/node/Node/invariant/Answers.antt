use Rattle.arrow_layout.proofs.FromParts.{well_formed-parts}
use Rattle.arrow_meaning.specs.Nodes.{layout_of}
use Rattle.arrow_meaning.proofs.NodeParts.{nested_fits}
use Rattle.arrow_meaning.proofs.node.Node.invariant.Goals as goal

pub returns-in_default-clause-sound : goal.returns-in_default-clause-sound
returns-in_default-clause-sound c =
    let d = c.in_default in
    let fits = nested_fits c.args.self.now d.not-Boolean d.not-Primitive d.not-Binary d.not-LargeBinary d.not-Utf8 d.not-LargeUtf8 d.not-FixedSizeBinary d.not-BinaryView d.not-Utf8View c.requires in
    well_formed-parts (layout_of c.args.self.now) fits.0 c.children_invariant.ensures
