use Rattle.std.proofs.Common.{◌≡◌, ℕ, ◌^◌, ap, sym, subst, map}
use Rattle.std.specs.Prelude.{OnOk}
use Rattle.arrow_growable.specs.declared.parts.NestedParts.TheVariants as parts_of
use Rattle.std.specs.Option.{option_copied}
use Rattle.arrow_types.specs.Seen.{seen}
use Rattle.arrow_layout.specs.Layouts.{layouts}
use Rattle.arrow_meaning.specs.Nodes.{layout_of}
use Rattle.arrow_growable.specs.Taken.{HaveNoRoom, HaveTaken}
use Rattle.arrow_growable.proofs.NodeParts.{chunk_node_full, chunk_node_runs, chunk_node_taken, struct_node_full, struct_node_runs, struct_node_taken}
use Rattle.arrow_growable.proofs.parts.extend_counted_parts.Goals as goal

pub returns-in-FixedSizeList-parts-clause-runs : goal.returns-in-FixedSizeList-parts-clause-runs
returns-in-FixedSizeList-parts-clause-runs c =
    let v = c.in-FixedSizeList in
    chunk_node_runs (layout_of c.args.node.now) (seen v.dtype) v.validity (option_copied c.as_ref.result) v.size v.slots v.child c.args.runs.now (ap layout_of v.is) c.as_ref.ensures.value c.requires.sound c.requires.within
    c.extend_chunks.result c.extend_chunks.ensures.runs

pub returns-in-FixedSizeList-parts-clause-taken : goal.returns-in-FixedSizeList-parts-clause-taken
returns-in-FixedSizeList-parts-clause-taken c =
    let v = c.in-FixedSizeList in
    let p = c.in-FixedSizeList-parts in
    subst (λ x. OnOk c.extend_chunks.result (HaveTaken (layout_of c.args.node.now) c.args.runs.now c.args.copies x (parts_of.FixedSizeList p.size c.extend_chunks.new.length))) (sym p.is)
    (chunk_node_taken (layout_of c.args.node.now) (seen v.dtype) v.validity (option_copied c.as_ref.result) v.size v.slots v.child c.args.runs.now (ap layout_of v.is) c.as_ref.ensures.value c.requires.sound c.requires.within
    c.args.copies p.size p.length c.extend_chunks.new.length c.extend_chunks.result c.extend_chunks.ensures.counted c.extend_chunks.ensures.few)

pub returns-in-FixedSizeList-parts-clause-overflow : goal.returns-in-FixedSizeList-parts-clause-overflow
returns-in-FixedSizeList-parts-clause-overflow c = λ e.
    let v = c.in-FixedSizeList in
    let p = c.in-FixedSizeList-parts in
    subst (λ x. HaveNoRoom (layout_of c.args.node.now) c.args.runs.now c.args.copies x) (sym p.is)
    (chunk_node_full (layout_of c.args.node.now) (seen v.dtype) v.validity (option_copied c.as_ref.result) v.size v.slots v.child c.args.runs.now (ap layout_of v.is) c.as_ref.ensures.value c.requires.sound c.requires.within
    c.args.copies p.size p.length c.requires.some (c.extend_chunks.ensures.overflow e))

pub returns-in-Struct-parts-clause-runs : goal.returns-in-Struct-parts-clause-runs
returns-in-Struct-parts-clause-runs c =
    let v = c.in-Struct in
    struct_node_runs (layout_of c.args.node.now) (seen v.dtype) v.validity (option_copied c.as_ref-in-Struct-parts.result) v.slots (layouts v.children.items) c.args.runs.now (ap layout_of v.is) c.as_ref-in-Struct-parts.ensures.value c.requires.sound c.requires.within
    c.extend_structs.result c.extend_structs.ensures.runs

pub returns-in-Struct-parts-clause-taken : goal.returns-in-Struct-parts-clause-taken
returns-in-Struct-parts-clause-taken c =
    let p = c.in-Struct-parts in
    subst (λ x. OnOk c.extend_structs.result (HaveTaken (layout_of c.args.node.now) c.args.runs.now c.args.copies x (parts_of.Struct c.extend_structs.new.length))) (sym p.is)
    (struct_node_taken (layout_of c.args.node.now) c.args.runs.now c.args.copies p.length c.extend_structs.new.length c.extend_structs.result c.extend_structs.ensures.counted c.extend_structs.ensures.few)

pub returns-in-Struct-parts-clause-overflow : goal.returns-in-Struct-parts-clause-overflow
returns-in-Struct-parts-clause-overflow c = λ e.
    let p = c.in-Struct-parts in
    subst (λ x. HaveNoRoom (layout_of c.args.node.now) c.args.runs.now c.args.copies x) (sym p.is)
    (struct_node_full (layout_of c.args.node.now) c.args.runs.now c.args.copies p.length (c.extend_structs.ensures.overflow e))
