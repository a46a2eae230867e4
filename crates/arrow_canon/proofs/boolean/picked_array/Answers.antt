use Rattle.std.proofs.Common.{◌≡◌, ap, ◌∙◌, arith}
use Rattle.arrow_types.specs.Seen.{seen}
use Rattle.arrow_types.specs.Types.{physical_of}
use Rattle.arrow_meaning.specs.Nodes.{boolean_layout}
use Rattle.arrow_canon.specs.Picks.{picked_mask}
use Rattle.arrow_canon.specs.Runs.{places}
use Rattle.arrow_canon.proofs.Booleans.{stored_for, canonical_booleans, mask_of_parts, fits_if}
use Rattle.arrow_canon.proofs.boolean.picked_array.Goals as goal

pub picked_values-requires-clause-mask : goal.picked_values-requires-clause-mask
picked_values-requires-clause-mask c = c.as_ref.ensures.value ∙ c.in_ok-validity.ensures ∙ ap (λ m. picked_mask m (places c.args.runs.now)) c.validity.ensures

pub new-requires-clause-fits : goal.new-requires-clause-fits
new-requires-clause-fits c =
    let a = c.args.array.now in
    let ps = places c.args.runs.now in
    let mask : c.in_ok-validity.validity ≡ picked_mask a.mask ps = c.in_ok-validity.ensures ∙ ap (λ m. picked_mask m ps) c.validity.ensures in
    mask_of_parts a c.invariant.ensures (seen c.args.dtype.now) c.requires.of_type c.args.runs.now c.requires.within c.in_ok-validity.validity c.in_ok-values.values mask c.in_ok-values.ensures

pub new-requires-clause-stored : goal.new-requires-clause-stored
new-requires-clause-stored c =
    ap (λ d. physical_of (seen d)) c.in_ok-dtype.ensures ∙ stored_for c.args.array.now c.invariant.ensures (seen c.args.dtype.now) c.requires.of_type

pub returns : goal.returns
returns c =
    let a = c.args.array.now in
    let ps = places c.args.runs.now in
    let mask : c.in_ok-validity.validity ≡ picked_mask a.mask ps = c.in_ok-validity.ensures ∙ ap (λ m. picked_mask m ps) c.validity.ensures in (
      ap boolean_layout c.new.ensures
          ∙ canonical_booleans a c.invariant.ensures (seen c.args.dtype.now) c.requires.of_type c.args.runs.now c.requires.within
          (record { dtype = c.in_ok-dtype.dtype; values = c.in_ok-values.values; mask = c.in_ok-validity.validity })
          (ap seen c.in_ok-dtype.ensures) c.in_ok-values.ensures mask,
      fits_if a c.invariant.ensures (seen c.args.dtype.now) c.requires.of_type c.args.runs.now c.requires.within (omega (arith, c.requires.counted, c.ranges.count.fits)),
    )
