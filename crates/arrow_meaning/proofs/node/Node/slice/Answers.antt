use Rattle.std.proofs.Common.{ap, ◌∙◌, sym, subst, ◌+◌, ◌≤◌}
use Rattle.arrow_layout.specs.Cut.{cut}
use Rattle.arrow_layout.specs.Layouts.{layouts, length_of}
use Rattle.arrow_layout.specs.WellFormed.{WellFormed}
use Rattle.arrow_meaning.specs.Nodes.{dictionary_layout, key_type_of, layout_of, node_physical}
use Rattle.arrow_meaning.proofs.NodeParts.{dictionary_part, same_keys, union_covers, union_small}
use Rattle.arrow_meaning.proofs.node.Node.slice.Goals as goal

pub slice_union-requires-clause-dense : goal.slice_union-requires-clause-dense
slice_union-requires-clause-dense c =
    let e = ap layout_of c.in-Union.is in
    union_covers c.in-Union.dtype c.in-Union.types c.in-Union.offsets (layouts c.in-Union.children.items) c.in-Union.shift c.args.offset c.args.length
    (subst WellFormed e c.requires.sound) (subst (λ l. c.args.offset + c.args.length ≤ length_of l) e c.requires.within)

pub slice_union-requires-clause-small : goal.slice_union-requires-clause-small
slice_union-requires-clause-small c =
    let e = ap layout_of c.in-Union.is in
    union_small c.in-Union.dtype c.in-Union.types c.in-Union.offsets (layouts c.in-Union.children.items) c.in-Union.shift c.args.offset c.args.length
    (subst WellFormed e c.requires.sound) (subst (λ l. c.args.offset + c.args.length ≤ length_of l) e c.requires.within)

pub returns-in-Dictionary-clause-part : goal.returns-in-Dictionary-clause-part
returns-in-Dictionary-clause-part c =
    ap (λ k. dictionary_layout c.in-Dictionary.dtype k c.in-Dictionary.child) c.slice-in-Dictionary.ensures.part
    ∙ (dictionary_part c.in-Dictionary.dtype c.in-Dictionary.child c.args.offset c.args.length c.in-Dictionary.keys
    ∙ ap (λ k. cut (layout_of k) c.args.offset c.args.length) (sym c.in-Dictionary.is))

pub returns-in-Dictionary-clause-kind : goal.returns-in-Dictionary-clause-kind
returns-in-Dictionary-clause-kind c =
    same_keys (key_type_of c.slice-in-Dictionary.new.self) (key_type_of c.in-Dictionary.keys) c.slice-in-Dictionary.ensures.kind ∙ ap node_physical (sym c.in-Dictionary.is)
