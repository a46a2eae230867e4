use Rattle.std.proofs.Common.{◌≡◌, ℕ, ◌^◌, ap, sym, subst, map}
use Rattle.std.specs.Option.{option_copied}
use Rattle.arrow_types.specs.Seen.{seen}
use Rattle.arrow_meaning.specs.Nodes.{layout_of}
use Rattle.arrow_growable.specs.Taken.{HaveNoRoom, HaveTaken}
use Rattle.std.specs.Prelude.{OnOk}
use Rattle.arrow_growable.specs.declared.parts.NestedParts.TheVariants as parts_of
use Rattle.arrow_growable.proofs.NodeParts.{large_lists, list_node_full, list_node_runs, list_node_taken, map_lists, small_lists}
use Rattle.arrow_growable.proofs.parts.extend_list_parts.Goals as goal

pub returns-in-List-parts-clause-runs : goal.returns-in-List-parts-clause-runs
returns-in-List-parts-clause-runs c =
    let v = c.in-List in
    list_node_runs (layout_of c.args.node.now) (seen v.dtype) v.validity (option_copied c.as_ref.result) (map (λ o. o) v.offsets) v.child c.args.runs.now (ap layout_of v.is) c.as_ref.ensures.value c.requires.sound c.requires.within
    c.extend_lists.result c.extend_lists.ensures.runs

pub returns-in-List-parts-clause-taken : goal.returns-in-List-parts-clause-taken
returns-in-List-parts-clause-taken c =
    let v = c.in-List in
    let p = c.in-List-parts in
    let are = small_lists p.ends c.extend_lists.new.ends in
    subst (λ x. OnOk c.extend_lists.result (HaveTaken (layout_of c.args.node.now) c.args.runs.now c.args.copies x (parts_of.List c.extend_lists.new.ends))) (sym p.is)
    (list_node_taken (layout_of c.args.node.now) (seen v.dtype) v.validity (option_copied c.as_ref.result) (map (λ o. o) v.offsets) v.child c.args.runs.now (ap layout_of v.is) c.as_ref.ensures.value c.requires.sound c.requires.within
    c.args.copies (2 ^ 31) (map (λ o. o) p.ends) (map (λ o. o) c.extend_lists.new.ends) c.extend_lists.new.ends _ _ are c.extend_lists.result c.extend_lists.ensures.ends c.extend_lists.ensures.fits c.extend_lists.ensures.few)

pub returns-in-List-parts-clause-overflow : goal.returns-in-List-parts-clause-overflow
returns-in-List-parts-clause-overflow c = λ e.
    let v = c.in-List in
    let p = c.in-List-parts in
    let are = small_lists p.ends c.extend_lists.new.ends in
    subst (λ x. HaveNoRoom (layout_of c.args.node.now) c.args.runs.now c.args.copies x) (sym p.is)
    (list_node_full (layout_of c.args.node.now) (seen v.dtype) v.validity (option_copied c.as_ref.result) (map (λ o. o) v.offsets) v.child c.args.runs.now (ap layout_of v.is) c.as_ref.ensures.value c.requires.sound c.requires.within
    c.args.copies (2 ^ 31) (map (λ o. o) p.ends) (map (λ o. o) c.extend_lists.new.ends) c.extend_lists.new.ends _ _ are (c.extend_lists.ensures.overflow e))

pub returns-in-LargeList-parts-clause-runs : goal.returns-in-LargeList-parts-clause-runs
returns-in-LargeList-parts-clause-runs c =
    let v = c.in-LargeList in
    list_node_runs (layout_of c.args.node.now) (seen v.dtype) v.validity (option_copied c.as_ref-in-LargeList-parts.result) (map (λ o. o) v.offsets) v.child c.args.runs.now (ap layout_of v.is) c.as_ref-in-LargeList-parts.ensures.value c.requires.sound c.requires.within
    c.extend_lists-in-LargeList-parts.result c.extend_lists-in-LargeList-parts.ensures.runs

pub returns-in-LargeList-parts-clause-taken : goal.returns-in-LargeList-parts-clause-taken
returns-in-LargeList-parts-clause-taken c =
    let v = c.in-LargeList in
    let p = c.in-LargeList-parts in
    let are = large_lists p.ends c.extend_lists-in-LargeList-parts.new.ends in
    subst (λ x. OnOk c.extend_lists-in-LargeList-parts.result (HaveTaken (layout_of c.args.node.now) c.args.runs.now c.args.copies x (parts_of.LargeList c.extend_lists-in-LargeList-parts.new.ends))) (sym p.is)
    (list_node_taken (layout_of c.args.node.now) (seen v.dtype) v.validity (option_copied c.as_ref-in-LargeList-parts.result) (map (λ o. o) v.offsets) v.child c.args.runs.now (ap layout_of v.is) c.as_ref-in-LargeList-parts.ensures.value c.requires.sound c.requires.within
    c.args.copies (2 ^ 63) (map (λ o. o) p.ends) (map (λ o. o) c.extend_lists-in-LargeList-parts.new.ends) c.extend_lists-in-LargeList-parts.new.ends _ _ are c.extend_lists-in-LargeList-parts.result c.extend_lists-in-LargeList-parts.ensures.ends c.extend_lists-in-LargeList-parts.ensures.fits c.extend_lists-in-LargeList-parts.ensures.few)

pub returns-in-LargeList-parts-clause-overflow : goal.returns-in-LargeList-parts-clause-overflow
returns-in-LargeList-parts-clause-overflow c = λ e.
    let v = c.in-LargeList in
    let p = c.in-LargeList-parts in
    let are = large_lists p.ends c.extend_lists-in-LargeList-parts.new.ends in
    subst (λ x. HaveNoRoom (layout_of c.args.node.now) c.args.runs.now c.args.copies x) (sym p.is)
    (list_node_full (layout_of c.args.node.now) (seen v.dtype) v.validity (option_copied c.as_ref-in-LargeList-parts.result) (map (λ o. o) v.offsets) v.child c.args.runs.now (ap layout_of v.is) c.as_ref-in-LargeList-parts.ensures.value c.requires.sound c.requires.within
    c.args.copies (2 ^ 63) (map (λ o. o) p.ends) (map (λ o. o) c.extend_lists-in-LargeList-parts.new.ends) c.extend_lists-in-LargeList-parts.new.ends _ _ are (c.extend_lists-in-LargeList-parts.ensures.overflow e))

pub returns-in-Map-parts-clause-runs : goal.returns-in-Map-parts-clause-runs
returns-in-Map-parts-clause-runs c =
    let v = c.in-Map in
    list_node_runs (layout_of c.args.node.now) (seen v.dtype) v.validity (option_copied c.as_ref-in-Map-parts.result) (map (λ o. o) v.offsets) v.child c.args.runs.now (ap layout_of v.is) c.as_ref-in-Map-parts.ensures.value c.requires.sound c.requires.within
    c.extend_lists-in-Map-parts.result c.extend_lists-in-Map-parts.ensures.runs

pub returns-in-Map-parts-clause-taken : goal.returns-in-Map-parts-clause-taken
returns-in-Map-parts-clause-taken c =
    let v = c.in-Map in
    let p = c.in-Map-parts in
    let are = map_lists p.ends c.extend_lists-in-Map-parts.new.ends in
    subst (λ x. OnOk c.extend_lists-in-Map-parts.result (HaveTaken (layout_of c.args.node.now) c.args.runs.now c.args.copies x (parts_of.Map c.extend_lists-in-Map-parts.new.ends))) (sym p.is)
    (list_node_taken (layout_of c.args.node.now) (seen v.dtype) v.validity (option_copied c.as_ref-in-Map-parts.result) (map (λ o. o) v.offsets) v.child c.args.runs.now (ap layout_of v.is) c.as_ref-in-Map-parts.ensures.value c.requires.sound c.requires.within
    c.args.copies (2 ^ 31) (map (λ o. o) p.ends) (map (λ o. o) c.extend_lists-in-Map-parts.new.ends) c.extend_lists-in-Map-parts.new.ends _ _ are c.extend_lists-in-Map-parts.result c.extend_lists-in-Map-parts.ensures.ends c.extend_lists-in-Map-parts.ensures.fits c.extend_lists-in-Map-parts.ensures.few)

pub returns-in-Map-parts-clause-overflow : goal.returns-in-Map-parts-clause-overflow
returns-in-Map-parts-clause-overflow c = λ e.
    let v = c.in-Map in
    let p = c.in-Map-parts in
    let are = map_lists p.ends c.extend_lists-in-Map-parts.new.ends in
    subst (λ x. HaveNoRoom (layout_of c.args.node.now) c.args.runs.now c.args.copies x) (sym p.is)
    (list_node_full (layout_of c.args.node.now) (seen v.dtype) v.validity (option_copied c.as_ref-in-Map-parts.result) (map (λ o. o) v.offsets) v.child c.args.runs.now (ap layout_of v.is) c.as_ref-in-Map-parts.ensures.value c.requires.sound c.requires.within
    c.args.copies (2 ^ 31) (map (λ o. o) p.ends) (map (λ o. o) c.extend_lists-in-Map-parts.new.ends) c.extend_lists-in-Map-parts.new.ends _ _ are (c.extend_lists-in-Map-parts.ensures.overflow e))
