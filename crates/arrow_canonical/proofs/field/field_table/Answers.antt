use Rattle.std.proofs.Common.{◌∷◌, ◌++◌, [], map, ap, sym, ◌∙◌, arith}
use Rattle.std.specs.List.{range_with_len}
use Rattle.std.specs.Option.{option_copied}
use Rattle.std.proofs.lemmas.List.FromFn.{map-range_with_len_more}
use Rattle.arrow_types.specs.Select.{select}
use Rattle.arrow_canonical.proofs.field.field_table.Goals as goal

pub loop-number-preserved : goal.loop-number-preserved
loop-number-preserved c =
    let f = select (option_copied c.args.ids) in
    let i = c.loop-number.number in
    c.in_ok-push.ensures.items ∙ ap (λ xs. xs ++ c.selected_field.result ∷ []) c.loop-number.invariant
    ∙ ap (λ x. map f (range_with_len 0 i) ++ x ∷ []) c.selected_field.ensures ∙ sym (map-range_with_len_more f 0 i i (omega arith))
