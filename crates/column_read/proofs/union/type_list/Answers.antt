use Rattle.std.proofs.Common.{arith, ap, sym, ◌∙◌, ◌≡◌, ◌++◌, ◌∷◌, [], Some, rules}
use Rattle.std.proofs.lemmas.Int.{ints, to_z-of_z}
use Rattle.serde_json.specs.View.{view}
use Rattle.type_json.proofs.Walks.{traverse_map-none, traverse_map-more}
use Rattle.column_grammar.specs.Values.{signed_in}
use Rattle.column_read.proofs.union.type_list.Goals as goal

pub returns-in_default : goal.returns-in_default
returns-in_default c = λ _.
    let read = signed_in 7 in
    traverse_map-none view read c.args.list.now c.loop-item.item-index c.item-item.result (omega arith) (ap (λ y. read (view y)) (sym c.item-item.is) ∙ sym c.in_default.ensures.number)

pub loop-item-preserved : goal.loop-item-preserved
loop-item-preserved c =
    let read = signed_in 7 in
    let pushed : c.push.new.self.items ≡ c.loop-item.types.items ++ c.in-Some.number ∷ [] = search (rules, ints, to_z-of_z, c.in_ok-push.ensures.items) in
    traverse_map-more view read c.args.list.now c.loop-item.item-index c.item-item.result c.loop-item.types.items c.in-Some.number (omega arith) c.loop-item.invariant
    (ap (λ y. read (view y)) (sym c.item-item.is) ∙ sym c.in-Some.ensures.number)
    ∙ ap Some (sym pushed)
