use Rattle.std.proofs.Common.{Some, ap, ap₂, get_or, length, subst, sym, ◌+◌, ◌<◌, ◌^◌, ◌∙◌}
use Rattle.std.specs.Prelude.{IfSome, pos}
use Rattle.arrow_types.specs.Select.{nat_of, select}
use Rattle.arrow_layout.specs.Forms.{form_of, ids_by}
use Rattle.arrow_layout.specs.Layouts.{layouts}
use Rattle.arrow_layout.specs.Paths.{children_of}
use Rattle.arrow_meaning.specs.Nodes.{layout_of}
use Rattle.arrow_meaning.specs.Refusals.{IsUnion}
use Rattle.arrow_choice.specs.Unions.{NamesSlot, slot_by, type_numbers, union_offsets, union_shift}
use Rattle.arrow_choice.proofs.UnionNodes.{is_union, offsets-union, shift-union, types-union, union_node}
use Rattle.arrow_choice.proofs.Unions.{index_covered, index_found, index_names, index_small, numbers_counted, same_pair}
use Rattle.arrow_equal.proofs.union.index_of.Goals as goal

pub unreachable-requires : goal.unreachable-requires
unreachable-requires c =
    let u = union_node c.node.result.now c.args.array.now c.node.ensures.kind c.requires.union in
    c.in_default.not-Union u.0 u.1 u.2 u.3 u.4 u.5

pub selected_field-field-requires-clause-within : goal.selected_field-field-requires-clause-within
selected_field-field-requires-clause-within c =
    let l = c.args.array.now in
    let u = c.in-Union in
    let same = ap layout_of (sym u.is) ∙ c.node.ensures.same in
    let union = subst IsUnion same (is_union u.dtype u.types (layouts u.children.items) u.shift u.offsets) in
    let types = c.as_slice.ensures ∙ types-union u.dtype u.types (layouts u.children.items) u.shift u.offsets ∙ ap type_numbers same in
    subst (λ n. c.args.i < n) (sym (ap length types ∙ numbers_counted l union)) c.requires.within

pub child_slot-requires-clause-covered : goal.child_slot-requires-clause-covered
child_slot-requires-clause-covered c =
    let l = c.args.array.now in
    let u = c.in-Union in
    let same = ap layout_of (sym u.is) ∙ c.node.ensures.same in
    let union = subst IsUnion same (is_union u.dtype u.types (layouts u.children.items) u.shift u.offsets) in
    let offsets = offsets-union u.dtype u.types (layouts u.children.items) u.shift u.offsets ∙ ap union_offsets same in
    subst (λ os. IfSome os (λ xs. c.args.i < length xs)) (sym offsets) (index_covered l union c.node.ensures.sound c.args.i c.requires.within)

pub child_slot-requires-clause-small : goal.child_slot-requires-clause-small
child_slot-requires-clause-small c =
    let l = c.args.array.now in
    let u = c.in-Union in
    let same = ap layout_of (sym u.is) ∙ c.node.ensures.same in
    let union = subst IsUnion same (is_union u.dtype u.types (layouts u.children.items) u.shift u.offsets) in
    let shift = shift-union u.dtype u.types (layouts u.children.items) u.shift u.offsets ∙ ap union_shift same in
    subst (λ s. c.args.i + s < 2 ^ 64) (sym shift) (index_small l union c.node.ensures.sound c.args.i c.requires.within)

pub returns-clause-index : goal.returns-clause-index
returns-clause-index c =
    let l = c.args.array.now in
    let u = c.in-Union in
    let same = ap layout_of (sym u.is) ∙ c.node.ensures.same in
    let union = subst IsUnion same (is_union u.dtype u.types (layouts u.children.items) u.shift u.offsets) in
    let types = c.as_slice.ensures ∙ types-union u.dtype u.types (layouts u.children.items) u.shift u.offsets ∙ ap type_numbers same in
    let offsets = offsets-union u.dtype u.types (layouts u.children.items) u.shift u.offsets ∙ ap union_offsets same in
    let shift = shift-union u.dtype u.types (layouts u.children.items) u.shift u.offsets ∙ ap union_shift same in
    let field = c.selected_field-field.ensures ∙ ap₂ (λ t ts. select (ids_by (form_of t)) (nat_of (get_or ts c.args.i (pos 0)))) c.dtype.ensures types in
    let slot = c.child_slot.ensures ∙ ap₂ (λ os s. slot_by os s c.args.i) offsets shift in
    index_found l union c.node.ensures.sound c.args.i c.requires.within ∙ ap Some (sym (same_pair field slot))

pub returns-clause-within : goal.returns-clause-within
returns-clause-within c =
    let l = c.args.array.now in
    let u = c.in-Union in
    let same = ap layout_of (sym u.is) ∙ c.node.ensures.same in
    let union = subst IsUnion same (is_union u.dtype u.types (layouts u.children.items) u.shift u.offsets) in
    let types = c.as_slice.ensures ∙ types-union u.dtype u.types (layouts u.children.items) u.shift u.offsets ∙ ap type_numbers same in
    let offsets = offsets-union u.dtype u.types (layouts u.children.items) u.shift u.offsets ∙ ap union_offsets same in
    let shift = shift-union u.dtype u.types (layouts u.children.items) u.shift u.offsets ∙ ap union_shift same in
    let field = c.selected_field-field.ensures ∙ ap₂ (λ t ts. select (ids_by (form_of t)) (nat_of (get_or ts c.args.i (pos 0)))) c.dtype.ensures types in
    let slot = c.child_slot.ensures ∙ ap₂ (λ os s. slot_by os s c.args.i) offsets shift in
    subst (NamesSlot (children_of l)) (sym (same_pair field slot)) (index_names l union c.node.ensures.sound c.args.i c.requires.within)
