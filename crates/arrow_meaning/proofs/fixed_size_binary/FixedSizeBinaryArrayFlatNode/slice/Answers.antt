use Rattle.std.proofs.Common.{ap, ◌∙◌, subst, ◌<◌}
use Rattle.arrow_meaning.specs.Nodes.{fixed_size_binary_layout}
use Rattle.arrow_meaning.proofs.FlatLayouts.{fixed_size_binaries_part}
use Rattle.arrow_meaning.proofs.fixed_size_binary.FixedSizeBinaryArrayFlatNode.slice.Goals as goal

pub returns-clause-part : goal.returns-clause-part
returns-clause-part c =
    let positive = subst (λ k. 0 < k) c.size.ensures.value c.size.ensures.positive in
    ap fixed_size_binary_layout c.slice.ensures ∙ fixed_size_binaries_part c.args.self.now c.args.offset c.args.length positive c.requires
