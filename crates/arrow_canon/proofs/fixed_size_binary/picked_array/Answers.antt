use Rattle.std.proofs.Common.{refl, ◌≡◌, ◌/◌, ◌%◌, ◌<◌, ◌^◌, None, length, ap, sym, subst, ◌∙◌}
use Rattle.arrow_bytes.specs.FixedSizeBinaries.{slots, slot_count}
use Rattle.arrow_flat.specs.Primitives.{MaskHasLength}
use Rattle.arrow_types.specs.Seen.{seen}
use Rattle.arrow_bytes.specs.FixedSizeBinaries.{size_or_zero}
use Rattle.arrow_canon.specs.Picks.{picks, picked_mask}
use Rattle.arrow_canon.specs.Runs.{places, AreWithinMask}
use Rattle.arrow_canon.specs.Steps.{concatenated}
use Rattle.arrow_canon.proofs.Places.{within_mask}
use Rattle.arrow_canon.proofs.FixedSizes.{size_for, pieces_within, canonical_sized, multiple_of_parts, mask_of_parts, fits_if}
use Rattle.arrow_canon.proofs.fixed_size_binary.picked_array.Goals as goal

pub joined_bytes-requires : goal.joined_bytes-requires
joined_bytes-requires c = λ k. ((refl, tt), (refl, pieces_within c.args.array.now c.invariant.ensures (seen c.args.dtype.now) c.requires.of_type c.args.runs.now c.requires.within))

pub mask_of_runs-requires : goal.mask_of_runs-requires
mask_of_runs-requires c =
    let a = c.args.array.now in
    subst (λ m. AreWithinMask m c.args.runs.now) (sym c.validity.ensures) (within_mask a.mask (slot_count a) c.args.runs.now c.invariant.ensures.fits c.requires.within)

pub new-requires-clause-positive : goal.new-requires-clause-positive
new-requires-clause-positive c =
    let a = c.args.array.now in
    let size = ap (λ d. size_or_zero (seen d)) c.in_ok-dtype.ensures ∙ size_for a c.invariant.ensures (seen c.args.dtype.now) c.requires.of_type in
    subst (λ n. 0 < n) (sym size) c.invariant.ensures.positive

pub new-requires-clause-multiple : goal.new-requires-clause-multiple
new-requires-clause-multiple c =
    let a = c.args.array.now in
    let t = seen c.args.dtype.now in
    let ys = picks None (slots a) (places c.args.runs.now) in
    let size = ap (λ d. size_or_zero (seen d)) c.in_ok-dtype.ensures ∙ size_for a c.invariant.ensures t c.requires.of_type in
    let values : c.in_ok-values-2.values ≡ concatenated a.size ys = c.in_ok-values-2.ensures ∙ c.in_ok-values.ensures ∙ ap (λ k. concatenated k ys) c.size.ensures.value in
    subst (λ n. length c.in_ok-values-2.values % n ≡ 0) (sym size)
    (multiple_of_parts a c.invariant.ensures t c.requires.of_type c.args.runs.now c.requires.within c.in_ok-values-2.values values)

pub new-requires-clause-fits : goal.new-requires-clause-fits
new-requires-clause-fits c =
    let a = c.args.array.now in
    let t = seen c.args.dtype.now in
    let ps = places c.args.runs.now in
    let ys = picks None (slots a) ps in
    let m = c.in_ok-validity.validity in
    let size = ap (λ d. size_or_zero (seen d)) c.in_ok-dtype.ensures ∙ size_for a c.invariant.ensures t c.requires.of_type in
    let mask : m ≡ picked_mask a.mask ps = c.in_ok-validity.ensures ∙ ap (λ m. picked_mask m ps) c.validity.ensures in
    let values : c.in_ok-values-2.values ≡ concatenated a.size ys = c.in_ok-values-2.ensures ∙ c.in_ok-values.ensures ∙ ap (λ k. concatenated k ys) c.size.ensures.value in
    subst (λ n. MaskHasLength m (length c.in_ok-values-2.values / n)) (sym size)
    (mask_of_parts a c.invariant.ensures t c.requires.of_type c.args.runs.now c.requires.within m c.in_ok-values-2.values mask values)

pub returns : goal.returns
returns c =
    let a = c.args.array.now in
    let t = seen c.args.dtype.now in
    let ps = places c.args.runs.now in
    let ys = picks None (slots a) ps in
    let size = ap (λ d. size_or_zero (seen d)) c.in_ok-dtype.ensures ∙ size_for a c.invariant.ensures t c.requires.of_type in
    let mask : c.in_ok-validity.validity ≡ picked_mask a.mask ps = c.in_ok-validity.ensures ∙ ap (λ m. picked_mask m ps) c.validity.ensures in
    let values : c.in_ok-values-2.values ≡ concatenated a.size ys = c.in_ok-values-2.ensures ∙ c.in_ok-values.ensures ∙ ap (λ k. concatenated k ys) c.size.ensures.value in (
      canonical_sized a c.invariant.ensures t c.requires.of_type c.args.runs.now c.requires.within c.new.result
          (ap (λ x. seen x.dtype) c.new.ensures ∙ ap seen c.in_ok-dtype.ensures)
          (ap (λ x. x.size) c.new.ensures ∙ size)
          (ap (λ x. x.values) c.new.ensures ∙ values)
          (ap (λ x. x.mask) c.new.ensures ∙ mask),
      fits_if a c.invariant.ensures t c.requires.of_type c.args.runs.now c.requires.within (subst (λ n. n < 2 ^ 64) c.requires.counted c.ranges.room.fits),
    )
