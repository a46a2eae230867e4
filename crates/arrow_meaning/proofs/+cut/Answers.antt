use Rattle.std.proofs.Common.{◌≡◌, ◌+◌, ◌≤◌, ap, sym, subst, ◌∙◌, rules, arith, map}
use Rattle.std.proofs.lemmas.Grind.{common_steps}
use denote.Param.Weighed.{most}
use Rattle.arrow_layout.specs.Cut.{cut}
use Rattle.arrow_layout.specs.FitsHere.{HaveLengths}
use Rattle.arrow_layout.specs.Layouts.{layouts, length_of}
use Rattle.arrow_layout.specs.NodeCount.{node_count}
use Rattle.arrow_layout.specs.WellFormed.{WellFormed}
use Rattle.arrow_layout.proofs.CutForms.{cut_well_formed}
use Rattle.arrow_layout.proofs.Cuts.{scaled}
use Rattle.arrow_meaning.specs.declared.array.ArrayRef.TheDeep.{size-ArrayRef}
use Rattle.arrow_meaning.specs.Nodes.{layout_of, node_physical}
use Rattle.arrow_meaning.proofs.Children.{children_fall, layouts-map-cut, least_at, most_at}
use Rattle.arrow_meaning.proofs.NodeParts.{least_lengths, stored_part}
use Rattle.arrow_meaning.proofs.+cut.Goals as goal

pub array::ArrayRef::cut_node-sliced-requires : goal.array::ArrayRef::cut_node-sliced-requires
array::ArrayRef::cut_node-sliced-requires t c =
    let e = sym (ap layout_of c.in-FixedSizeList.is) ∙ c.node.ensures.same in
    let w = subst WellFormed (sym e) c.node.ensures.sound in
    let room = subst (λ l. c.args.offset + c.args.length ≤ length_of l) (sym e) c.requires in
    let fall = ap node_count e in
    let low = scaled c.args.offset c.args.length c.in-FixedSizeList.length c.in-FixedSizeList.size room in
    (search (rules, arith, fall), omega (arith, w.1, low))

pub array::ArrayRef::cut_node-sliced_all-requires : goal.array::ArrayRef::cut_node-sliced_all-requires
array::ArrayRef::cut_node-sliced_all-requires t c =
    let e = sym (ap layout_of c.in-Struct.is) ∙ c.node.ensures.same in
    let w = subst WellFormed (sym e) c.node.ensures.sound in
    let room = subst (λ l. c.args.offset + c.args.length ≤ length_of l) (sym e) c.requires in
    let fall = children_fall c.args.self.now c.in-Struct.children.items c.deref.result.now (sym (ap node_count e)) c.deref.ensures.value in
    let all = subst (λ ls. HaveLengths (λ i. c.args.offset + c.args.length ≤ i) (layouts ls)) (sym c.deref.ensures.value) (least_lengths _ _ (layouts c.in-Struct.children.items) room w.2) in
    (search (rules, arith, fall), all)

pub array::ArrayRef::sliced-from_sound-requires-clause-sound : goal.array::ArrayRef::sliced-from_sound-requires-clause-sound
array::ArrayRef::sliced-from_sound-requires-clause-sound t c =
    let h = c.in_ok-node.ensures in
    subst WellFormed (sym h.part) (cut_well_formed c.args.self.now c.args.offset c.args.length c.cut_node.ensures.sound c.requires)

pub array::ArrayRef::sliced-from_sound-requires-clause-kind : goal.array::ArrayRef::sliced-from_sound-requires-clause-kind
array::ArrayRef::sliced-from_sound-requires-clause-kind t c =
    let h = c.in_ok-node.ensures in
    stored_part (node_physical c.in_ok-node.node) c.args.self.now (layout_of c.in_ok-node.node) c.args.offset c.args.length h.part h.kind

pub cut::sliced_all-sliced-requires : goal.cut::sliced_all-sliced-requires
cut::sliced_all-sliced-requires t c =
    let least = least_at _ c.args.arrays.now c.loop-array.array-index c.array-item.result c.loop-array-test.true c.requires in
    let fall = subst (λ a. size-ArrayRef a ≤ most size-ArrayRef c.args.arrays.now) (sym c.array-item.is) (most_at c.args.arrays.now c.loop-array.array-index c.array-item.result c.loop-array-test.true) in
    (search (rules, arith, fall), subst (λ a. c.args.offset + c.args.length ≤ length_of a) (sym c.array-item.is) least)

pub cut::sliced_all-returns : goal.cut::sliced_all-returns
cut::sliced_all-returns t c =
    let done : c.loop-array.parts.items ≡ map (λ a. cut a c.args.offset c.args.length) c.args.arrays.now = grind (arith, common_steps) in
    ap layouts done ∙ layouts-map-cut c.args.arrays.now c.args.offset c.args.length
