use Rattle.std.proofs.Common.{length, map, ap, ◌∙◌}
use Rattle.std.specs.Option.{option_copied}
use Rattle.std.proofs.lemmas.List.FromFn.{length-map-range_with_len}
use Rattle.arrow_types.specs.Select.{nat_of, select}
use Rattle.arrow_canonical.proofs.field.fields_of_types.Goals as goal

pub looked_up-requires : goal.looked_up-requires
looked_up-requires c =
    ap length (c.as_slice.ensures.value ∙ c.in_ok-table.ensures) ∙ length-map-range_with_len (select (option_copied c.declared_ids.result)) 0 128

pub returns : goal.returns
returns c =
    let by_ids = select (option_copied c.declared_ids.result) in
    c.in_ok-fields.ensures by_ids (c.as_slice.ensures.value ∙ c.in_ok-table.ensures) ∙ ap (λ ts. map by_ids (map nat_of ts)) c.as_slice-numbers.ensures
    ∙ ap (λ ids. map (select ids) (map nat_of c.args.types.now)) c.declared_ids.ensures
