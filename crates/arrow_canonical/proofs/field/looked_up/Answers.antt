use Rattle.std.proofs.Common.{◌≡◌, ◌∷◌, ◌++◌, [], map, take, get_or, ap, ◌∙◌}
use Rattle.arrow_types.specs.Select.{nat_of}
use Rattle.arrow_canonical.proofs.Ids.{selected_more, table_at}
use Rattle.arrow_canonical.proofs.field.looked_up.Goals as goal

pub loop-number-preserved : goal.loop-number-preserved
loop-number-preserved c = λ select_field e.
    let i = c.loop-number.number-index in
    let k = c.small_position.result in
    let here : get_or c.args.table.now k 0 ≡ select_field k = ap (λ xs. get_or xs k 0) e ∙ table_at select_field 128 k 0 c.small_position.ensures.small in
    c.in_ok-push.ensures.items
    ∙ ap (λ xs. xs ++ get_or c.args.table.now k 0 ∷ []) (c.loop-number.invariant select_field e)
    ∙ ap (λ y. map select_field (map nat_of (take i c.args.numbers.now)) ++ y ∷ []) (here ∙ ap select_field c.small_position.ensures.same)
    ∙ selected_more select_field c.args.numbers.now i c.loop-number-test.true
