use Rattle.std.proofs.Common.{arith, sym, ap, ◌∙◌, ◌≡◌, ◌++◌, ◌∷◌, [], Some, option_map, rules}
use Rattle.std.specs.Prelude.{map, ℤ, List, Option}
use Rattle.std.proofs.lemmas.Int.{ints, to_z-of_z}
use Rattle.std.proofs.lemmas.List.{take_all}
use Rattle.serde_json.specs.View.{view}
use Rattle.type_json.specs.Values.{traverse, int32_in}
use Rattle.type_json.proofs.Walks.{list_of-items_of, traverse_map-none, traverse_map-more}
use Rattle.type_json.proofs.reader.ids_list.Goals as goal

abbrev whole : Option (List ℤ) → Option (Option (List ℤ))
whole o = option_map (λ zs. Some zs) o

pub returns-in_default : goal.returns-in_default
returns-in_default c =
    λ _. ap whole
    (ap (traverse int32_in) (list_of-items_of (map view c.args.list.now))
    ∙ traverse_map-none view int32_in c.args.list.now c.loop-item.item-index c.item-item.result (omega arith) (ap (λ x. int32_in (view x)) (sym c.item-item.is) ∙ sym c.in_default.ensures))

pub loop-item-preserved : goal.loop-item-preserved
loop-item-preserved c =
    let pushed : c.push.new.self ≡ c.loop-item.ids ++ c.in-Some.id ∷ [] = search (rules, ints, to_z-of_z, c.in_ok-push.ensures.ok) in
    traverse_map-more view int32_in c.args.list.now c.loop-item.item-index c.item-item.result c.loop-item.ids c.in-Some.id (omega arith) c.loop-item.invariant
    (ap (λ x. int32_in (view x)) (sym c.item-item.is) ∙ sym c.in-Some.ensures)
    ∙ ap (λ l. Some l) (sym pushed)

pub returns : goal.returns
returns c =
    ap whole
    (ap (traverse int32_in) (list_of-items_of (map view c.args.list.now) ∙ ap (map view) (sym (take_all c.loop-item.item-index c.args.list.now (omega arith))))
    ∙ c.loop-item.invariant)
