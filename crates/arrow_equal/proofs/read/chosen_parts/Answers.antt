use Rattle.std.proofs.Common.{◌≡◌, ◌<◌, ◌≤ℤ◌, Some, ap, get_or, length, pos, slice_get, subst, sym, ◌∙◌}
use Rattle.arrow_meaning.specs.Nodes.{layout_of}
use Rattle.arrow_equal.proofs.Chosen.{chosen_made, field_within, number_fits, number_within}
use Rattle.arrow_equal.proofs.read.chosen_parts.Goals as goal

pub type_number-number-requires-clause-within : goal.type_number-number-requires-clause-within
type_number-number-requires-clause-within c =
    subst (λ ts. c.args.i < length ts) (sym c.as_slice.ensures) (number_within c.args.array.now c.in-Union.dtype c.in-Union.types c.in-Union.offsets c.in-Union.children.items c.in-Union.shift c.args.i (sym c.node.ensures.same ∙ ap layout_of c.in-Union.is) c.requires.within)

pub type_number-number-requires-clause-number : goal.type_number-number-requires-clause-number
type_number-number-requires-clause-number c =
    subst (λ ts. pos 0 ≤ℤ get_or ts c.args.i (pos 0)) (sym c.as_slice.ensures) (number_fits c.args.array.now c.in-Union.dtype c.in-Union.types c.in-Union.offsets c.in-Union.children.items c.in-Union.shift c.args.i (sym c.node.ensures.same ∙ ap layout_of c.in-Union.is) c.requires.within c.node.ensures.sound)

pub child_at-child-requires : goal.child_at-child-requires
child_at-child-requires c =
    subst (λ ls. c.index_of-field.result.0 < length ls) (sym c.as_slice-in-Union.ensures.value)
    (field_within c.args.array.now c.in-Union.dtype c.in-Union.types c.in-Union.offsets c.in-Union.children.items c.in-Union.shift c.args.i (sym c.node.ensures.same ∙ ap layout_of c.in-Union.is) c.requires.within (c.index_of-field.result.0, c.index_of-field.result.1) c.index_of-field.ensures.within)

pub returns : goal.returns
returns c =
    chosen_made c.args.array.now c.in-Union.dtype c.in-Union.types c.in-Union.offsets c.in-Union.children.items c.in-Union.shift c.args.i c.type_number-number.result (c.index_of-field.result.0, c.index_of-field.result.1) c.child_at-child.result.now (sym c.node.ensures.same ∙ ap layout_of c.in-Union.is)
    (subst (λ ts. slice_get ts c.args.i ≡ Some (pos c.type_number-number.result)) c.as_slice.ensures c.type_number-number.ensures)
    c.index_of-field.ensures.index c.index_of-field.ensures.within
    (field_within c.args.array.now c.in-Union.dtype c.in-Union.types c.in-Union.offsets c.in-Union.children.items c.in-Union.shift c.args.i (sym c.node.ensures.same ∙ ap layout_of c.in-Union.is) c.requires.within (c.index_of-field.result.0, c.index_of-field.result.1) c.index_of-field.ensures.within)
    (c.child_at-child.ensures ∙ ap (λ ls. get_or ls c.index_of-field.result.0 c.child_at-child.result.now) c.as_slice-in-Union.ensures.value)
