use Rattle.std.proofs.Common.{◌≡◌, ◌+◌, ◌∷◌, arith, sym, ap, ◌∙◌, subst, drop, rules}
use Rattle.std.proofs.lemmas.List.{drop_all, drop_more}
use Rattle.serde_json.specs.Data.{array}
use Rattle.serde_json.specs.View.{items_view}
use Rattle.type_json.specs.TypeJson.{type_in, field_in, fields_list}
use Rattle.type_json.proofs.Parts.{behind, part_depth, four_items, too_few, too_many, short_field, long_field, kept, done, array_value}
use Rattle.type_json.proofs.reader.+reader.Goals as goal
use Rattle.type_json.proofs.reader.+reader.Goals.{field_of-in_default-as_slice-via-then-as_slice-lt4, field_of-in_default-as_slice-via-else-as_slice-lt4+else-this-lt5, type_of-in_default-as_slice-via-then-as_slice-lt2, type_of-in_default-as_slice-via-else-as_slice-lt2+else-this-lt3+else-this-lt4+else-this-lt5}

pub fields_list-field_of-requires : goal.fields_list-field_of-requires
fields_list-field_of-requires t c =
    let deep = part_depth c.args.list.now c.loop-item.item-index c.item-item.result c.loop-item-test.true c.item-item.is in
    (omega (arith, c.decreases, deep), tt)

pub fields_list-loop-item-preserved : goal.fields_list-loop-item-preserved
fields_list-loop-item-preserved t c =
    let vs = c.args.list.now in
    let i = c.loop-item.item-index in
    let v = c.item-item.result in
    let d : drop i vs ≡ v ∷ drop (i + 1) vs = drop_more vs i v c.loop-item-test.true ∙ ap (λ y. y ∷ drop (i + 1) vs) (sym c.item-item.is) in
    subst (λ all. fields_list (items_view vs) ≡ behind all (fields_list (items_view (drop (i + 1) vs)))) (sym c.in_ok-push.ensures.ok)
    (kept (fields_list (items_view vs)) vs c.loop-item.fields i c.loop-item.invariant v c.in_ok-field_of.field-0 d c.in_ok-field_of.ensures)

pub fields_list-returns : goal.fields_list-returns
fields_list-returns t c =
    let vs = c.args.list.now in
    done (fields_list (items_view vs)) vs c.loop-item.fields c.loop-item.item-index c.loop-item.invariant (drop_all c.loop-item.item-index vs c.loop-item-test.false)

pub field_of-returns-in-len4 : goal.field_of-returns-in-len4
field_of-returns-in-len4 t c =
    let is = array_value c.args.value.now c.in-Array.list c.as_slice.result.now c.in-Array.is c.as_slice.ensures.value in
    let four = four_items c.as_slice.result.now c.name-item.result c.dtype-item.result c.nullable-item.result c.metadata-item.result c.in-len4.len_at_least c.in-len4.len_below c.name-item.is c.dtype-item.is c.nullable-item.is c.metadata-item.is in
    rw (ap field_in (is ∙ ap array four)) c.field_from.ensures

pub field_of-returns-in_default-as_slice : goal.field_of-returns-in_default-as_slice
field_of-returns-in_default-as_slice t c =
    let vs = c.as_slice.result.now in
    let is = array_value c.args.value.now c.in-Array.list vs c.in-Array.is c.as_slice.ensures.value in
    elim c.in_default-as_slice.branch [
      | field_of-in_default-as_slice-via-then-as_slice-lt4 w ↦ λ _. ap field_in is ∙ short_field vs (search rules)
      | field_of-in_default-as_slice-via-else-as_slice-lt4+else-this-lt5 w ↦ λ _. ap field_in is ∙ long_field vs (search rules)
    ]

pub type_of-returns-in-len4 : goal.type_of-returns-in-len4
type_of-returns-in-len4 t c =
    let is = array_value c.args.value.now c.in-Array.list c.as_slice.result.now c.in-Array.is c.as_slice.ensures.value in
    let four = four_items c.as_slice.result.now c.kind-item-then-this-lt5.result c.part-item-then-this-lt5.result c.third-item.result c.last-item-then-this-lt5.result c.in-len4.len_at_least c.in-len4.len_below c.kind-item-then-this-lt5.is c.part-item-then-this-lt5.is c.third-item.is c.last-item-then-this-lt5.is in
    rw (ap type_in (is ∙ ap array four)) c.of_four.ensures

pub type_of-returns-in_default-as_slice : goal.type_of-returns-in_default-as_slice
type_of-returns-in_default-as_slice t c =
    let vs = c.as_slice.result.now in
    let is = array_value c.args.value.now c.in-Array.list vs c.in-Array.is c.as_slice.ensures.value in
    elim c.in_default-as_slice.branch [
      | type_of-in_default-as_slice-via-then-as_slice-lt2 w ↦ λ _. ap type_in is ∙ too_few vs (search rules)
      | type_of-in_default-as_slice-via-else-as_slice-lt2+else-this-lt3+else-this-lt4+else-this-lt5 w ↦ λ _. ap type_in is ∙ too_many vs (search rules)
    ]
