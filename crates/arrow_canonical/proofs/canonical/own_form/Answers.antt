use Rattle.std.proofs.Common.{◌≡◌, ◌↔◌, IsTrue, ap, sym, subst, ◌∙◌}
use Rattle.arrow_types.specs.Seen.{seen}
use Rattle.arrow_layout.specs.WellFormed.{AreWellFormed}
use Rattle.arrow_layout.specs.Layouts.{layouts}
use Rattle.arrow_meaning.specs.Nodes.{layout_of}
use Rattle.arrow_canonical.specs.Filled.{AllFilled, NullsAreFilled}
use Rattle.arrow_canonical.proofs.Parts.{list_own, struct_children, struct_own}
use Rattle.arrow_canonical.proofs.canonical.own_form.Goals as goal

pub all_are_filled-requires-clause-children : goal.all_are_filled-requires-clause-children
all_are_filled-requires-clause-children c =
    let s = c.in-Struct in
    subst (λ ls. AreWellFormed (λ i. i ≡ s.length) (layouts ls)) (sym c.as_slice-children.ensures.value)
    (struct_children c.args.array.now (seen s.dtype) s.validity s.length s.children.items (sym c.node.ensures.same ∙ ap layout_of s.is) c.node.ensures.sound)

pub returns-in_ok-is_filled-in-FixedSizeList : goal.returns-in_ok-is_filled-in-FixedSizeList
returns-in_ok-is_filled-in-FixedSizeList c =
    let s = c.in-FixedSizeList in
    let b = c.in_ok-is_filled-in-FixedSizeList.is_filled in
    list_own c.args.array.now (seen s.dtype) s.validity s.size s.length s.child b (sym c.node.ensures.same ∙ ap layout_of s.is) c.node.ensures.sound
    (subst (λ m. IsTrue b ↔ NullsAreFilled m s.size s.length s.child) c.as_ref-in-FixedSizeList.ensures.value c.in_ok-is_filled-in-FixedSizeList.ensures)

pub returns-in_ok-are_filled-in-Struct : goal.returns-in_ok-are_filled-in-Struct
returns-in_ok-are_filled-in-Struct c =
    let s = c.in-Struct in
    let b = c.in_ok-are_filled-in-Struct.are_filled in
    struct_own c.args.array.now (seen s.dtype) s.validity s.length s.children.items b (sym c.node.ensures.same ∙ ap layout_of s.is) c.node.ensures.sound
    (subst (λ ls. IsTrue b ↔ AllFilled s.validity s.length ls) c.as_slice-children.ensures.value
    (subst (λ m. IsTrue b ↔ AllFilled m s.length c.as_slice-children.result.now) c.as_ref-in-Struct.ensures.value c.in_ok-are_filled-in-Struct.ensures))
