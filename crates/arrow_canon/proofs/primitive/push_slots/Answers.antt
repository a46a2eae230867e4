use Rattle.std.proofs.Common.{◌++◌, ◌+◌, slice_range, ap, sym, ◌∙◌}
use Rattle.std.specs.Option.{option_copied}
use Rattle.arrow_canon.specs.Picks.{picks, span}
use Rattle.arrow_canon.proofs.Places.{picks_slots}
use Rattle.arrow_canon.proofs.Primitives.{all_values}
use Rattle.arrow_canon.proofs.primitive.push_slots.Goals as goal

pub returns-in_ok-extend_from_slice-in-None : goal.returns-in_ok-extend_from_slice-in-None
returns-in_ok-extend_from_slice-in-None g c =
    let a = c.args.array.now in
    let d = g.T.NativeType.zero in
    let start = c.args.start in
    let n = c.args.length in
    c.in_ok-extend_from_slice-in-None.ensures.items
    ∙ ap (λ ys. c.args.values.now.items ++ ys)
    (ap (λ xs. slice_range xs start (start + n)) (c.as_slice-source.ensures ∙ c.values.ensures)
    ∙ picks_slots d a.values start n c.requires
    ∙ ap (λ ys. picks d ys (span start n)) (sym (all_values d a.mask a.values (sym c.validity.ensures ∙ ap option_copied c.in-None.is))))
