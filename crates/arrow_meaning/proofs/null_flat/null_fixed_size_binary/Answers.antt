use Rattle.std.proofs.Common.{ap, ◌∙◌}
use Rattle.std.specs.Option.{unwrap_or}
use Rattle.arrow_bytes.specs.FixedSizeBinaries.{declared_size}
use Rattle.arrow_types.specs.Seen.{seen}
use Rattle.arrow_meaning.proofs.NullParts.{sized_fits, sized_multiple, sized_nulls}
use Rattle.arrow_meaning.proofs.null_flat.null_fixed_size_binary.Goals as goal

pub new-requires-clause-multiple : goal.new-requires-clause-multiple
new-requires-clause-multiple c =
    let sized = ap (λ t. declared_size (seen t)) c.in_ok-dtype.ensures ∙ c.requires.sized in
    sized_multiple (seen c.in_ok-dtype.dtype) c.in_ok-values.values c.args.length c.args.size sized c.in_ok-values.ensures

pub new-requires-clause-fits : goal.new-requires-clause-fits
new-requires-clause-fits c =
    let sized = ap (λ t. declared_size (seen t)) c.in_ok-dtype.ensures ∙ c.requires.sized in
    sized_fits (seen c.in_ok-dtype.dtype) c.in_ok-values.values c.args.length c.args.size sized c.in_ok-values.ensures c.in_ok-validity.validity c.requires.positive c.in_ok-validity.ensures.covers

pub returns : goal.returns
returns c =
    let sized = ap (λ t. declared_size (seen t)) c.in_ok-dtype.ensures ∙ c.requires.sized in
    sized_nulls c.new.result c.args.dtype.now c.args.length c.args.size
    (ap (λ a. a.dtype) c.new.ensures ∙ c.in_ok-dtype.ensures) (ap (λ a. a.size) c.new.ensures ∙ ap (λ o. unwrap_or o 0) sized)
    (ap (λ a. a.values) c.new.ensures ∙ c.in_ok-values.ensures) (ap (λ a. a.mask) c.new.ensures ∙ c.in_ok-validity.ensures.same) c.requires.positive
