use Rattle.std.proofs.Common.{Some, ap, ap₂, get_or, length, subst, sym, ◌+◌, ◌<◌, ◌^◌, ◌∙◌}
use Rattle.std.specs.Prelude.{IfSome, pos}
use Rattle.arrow_types.specs.Select.{nat_of, select}
use Rattle.arrow_layout.specs.Forms.{form_of, ids_by}
use Rattle.arrow_layout.specs.Layouts.{type_of}
use Rattle.arrow_layout.specs.Paths.{children_of}
use Rattle.arrow_choice.specs.Unions.{NamesSlot, slot_by}
use Rattle.arrow_choice.proofs.Unions.{index_covered, index_found, index_names, index_small, same_pair}
use Rattle.arrow_choice.proofs.union.UnionArray.index.Goals as goal

pub slot_of-requires-clause-covered : goal.slot_of-requires-clause-covered
slot_of-requires-clause-covered c =
    let found = c.parts-parts.ensures in
    subst (λ os. IfSome os (λ xs. c.args.i < length xs)) (sym found.offsets) (index_covered c.args.self.now found.union found.sound c.args.i c.requires)

pub slot_of-requires-clause-small : goal.slot_of-requires-clause-small
slot_of-requires-clause-small c =
    let found = c.parts-parts.ensures in
    subst (λ s. c.args.i + s < 2 ^ 64) (sym found.shift) (index_small c.args.self.now found.union found.sound c.args.i c.requires)

pub returns-clause-index : goal.returns-clause-index
returns-clause-index c =
    let l = c.args.self.now in
    let found = c.parts-parts.ensures in
    let field = c.selected_field-field.ensures ∙ ap₂ (λ t ts. select (ids_by (form_of t)) (nat_of (get_or ts c.args.i (pos 0)))) (c.dtype.ensures ∙ ap type_of c.self.view_is) (c.as_slice.ensures ∙ found.types) in
    let slot = c.slot_of.ensures ∙ ap₂ (λ os s. slot_by os s c.args.i) found.offsets found.shift in
    index_found l found.union found.sound c.args.i c.requires ∙ ap Some (sym (same_pair field slot))

pub returns-clause-within : goal.returns-clause-within
returns-clause-within c =
    let l = c.args.self.now in
    let found = c.parts-parts.ensures in
    let field = c.selected_field-field.ensures ∙ ap₂ (λ t ts. select (ids_by (form_of t)) (nat_of (get_or ts c.args.i (pos 0)))) (c.dtype.ensures ∙ ap type_of c.self.view_is) (c.as_slice.ensures ∙ found.types) in
    let slot = c.slot_of.ensures ∙ ap₂ (λ os s. slot_by os s c.args.i) found.offsets found.shift in
    subst (NamesSlot (children_of l)) (sym (same_pair field slot)) (index_names l found.union found.sound c.args.i c.requires)
