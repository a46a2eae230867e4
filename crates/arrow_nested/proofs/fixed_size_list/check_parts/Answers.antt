use Rattle.std.proofs.Common.{◌≡◌, ◌/◌, ◌%◌, ◌<◌, ap, arith, sym, subst, ◌∙◌}
use Rattle.std.proofs.lemmas.Bool.{false≢true}
use Rattle.arrow_layout.specs.Layouts.{length_of}
use Rattle.arrow_types.proofs.Back.{seen_one}
use Rattle.arrow_types.specs.Seen.{seen}
use Rattle.arrow_types.specs.declared.error.Reason.TheVariants.{ChildTypeDiffers, MaskLength}
use Rattle.arrow_nested.specs.FixedSizeLists.{RefusedAt}
use Rattle.arrow_nested.proofs.FixedSizeLists.{whole_lists}
use Rattle.arrow_nested.proofs.fixed_size_list.check_parts.Goals as goal
use Rattle.arrow_nested.proofs.fixed_size_list.check_parts.Goals.{else-size-eq0-via-else-size-eq0, else-size-eq0-via-then-size-eq0+else-not-is_empty, else-size-ne0-2-via-else-size-ne0-2, else-size-ne0-2-via-then-size-ne0-2+else-len-size, else-size-ne0-via-else-size-ne0, else-size-ne0-via-then-size-ne0+else-len-size-ne0}

pub returns-then-not-is_same : goal.returns-then-not-is_same
returns-then-not-is_same c =
    subst (λ f. RefusedAt ChildTypeDiffers f c.args.length c.args.values.now c.args.validity.now) (sym c.in-Some.ensures)
    (λ e. false≢true (sym c.if-not-is_same.true ∙ c.is_same.ensures.1 (seen_one c.in-Some.item.now c.dtype.result.now (e ∙ sym c.dtype.ensures))))

pub returns-then-not-mask_fits : goal.returns-then-not-mask_fits
returns-then-not-mask_fits c =
    let count = length_of c.args.values.now in
    let k = c.in-Some.size in
    let multiple : 0 < k → count % k ≡ 0 =
    elim c.else-size-ne0.branch [
      | else-size-ne0-via-then-size-ne0+else-len-size-ne0 w ↦ λ p. ap (λ a. a % k) (sym w.len.ensures) ∙ w.if-len-size-ne0.false
      | else-size-ne0-via-else-size-ne0 w ↦ λ p. absurd (omega (arith, p, w.if-size-ne0.false))
    ] in
    let exact : 0 < k → count / k ≡ c.args.length =
    elim c.else-size-ne0-2.branch [
      | else-size-ne0-2-via-then-size-ne0-2+else-len-size w ↦ λ p. ap (λ a. a / k) (sym w.len-then-size-ne0-2.ensures) ∙ w.if-len-size.false
      | else-size-ne0-2-via-else-size-ne0-2 w ↦ λ p. absurd (omega (arith, p, w.if-size-ne0-2.false))
    ] in
    let none : k ≡ 0 → count ≡ 0 =
    elim c.else-size-eq0.branch [
      | else-size-eq0-via-then-size-eq0+else-not-is_empty w ↦ λ e. w.is_empty.ensures.0 w.if-not-is_empty.false
      | else-size-eq0-via-else-size-eq0 w ↦ λ e. absurd (w.if-size-eq0.false e)
    ] in
    subst (λ f. RefusedAt MaskLength f c.args.length c.args.values.now c.args.validity.now) (sym c.in-Some.ensures) (
      ap seen (c.is_same.ensures.0 c.if-not-is_same.false) ∙ c.dtype.ensures,
      whole_lists count k c.args.length multiple exact none,
      λ h. false≢true (sym c.if-not-mask_fits.true ∙ c.mask_fits.ensures.1 h),
    )
