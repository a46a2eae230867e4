-- Offsets that don't rise over nulls, position by position.
use Rattle.std.proofs.Common.{◌≡◌, ◌↔◌, ℕ, zero, suc, ◌+◌, ◌<◌, Bool, true, false, IsTrue, List, [], ◌∷◌, length, map, get_or, slice_get, Option, Some, refl, ap, sym, ◌∙◌, subst, arith}
use Rattle.std.specs.Prelude.{ℤ, pos, negsuc, pred, nat_eq}
use Rattle.std.proofs.lemmas.Bool.{eq-eqb, eqb-true, false≢true}
use Rattle.std.proofs.lemmas.List.{length-map}
use Rattle.arrow_types.specs.Select.{nat_of}
use Rattle.arrow_buffers.specs.Bits.{Bits}
use Rattle.arrow_buffers.specs.Offsets.{end_from, end_of, first_of, to_nat}
use Rattle.arrow_flat.specs.Primitives.{MaskHasLength}
use Rattle.arrow_layout.specs.Canonical.{FlatFrom, IsFlat}
use Rattle.arrow_layout.specs.WellFormed.{mask_bits}
use Rattle.arrow_canonical.specs.OwnForm.{IsEmptyAt, NullsAreEmpty}
use Rattle.arrow_canonical.proofs.Nulls.{bit_at, mask_long}

same_nat : (z : ℤ) → to_nat z ≡ nat_of z
same_nat (pos n) = refl
same_nat (negsuc n) = refl

abbrev AreEmptyAfter : ℕ → List ℕ → List Bool → Type 0
AreEmptyAfter a os bits = (i : ℕ) → i < length os → get_or bits i false ≡ false → get_or os i 0 ≡ get_or (a ∷ os) i 0

ends_at : (top a : ℕ) (zs : List ℤ) (bits : List Bool) → FlatFrom top a (map nat_of zs) bits → end_from a zs ≡ top
ends_at top a [] bits h = h
ends_at top a (z ∷ zs) [] h = ap (λ n. end_from n zs) (same_nat z) ∙ ends_at top (nat_of z) zs [] h
ends_at top a (z ∷ zs) (true ∷ bits) h = ap (λ n. end_from n zs) (same_nat z) ∙ ends_at top (nat_of z) zs bits h
ends_at top a (z ∷ zs) (false ∷ bits) h = ap (λ n. end_from n zs) (same_nat z) ∙ ends_at top (nat_of z) zs bits h.1

are_empty : (top a : ℕ) (os : List ℕ) (bits : List Bool) → length bits ≡ length os → FlatFrom top a os bits → AreEmptyAfter a os bits
are_empty top a [] bits e h i w f = absurd (omega (arith, w))
are_empty top a (o ∷ os) [] e h i w f = absurd (omega (arith, e))
are_empty top a (o ∷ os) (true ∷ bits) e h zero w f = absurd (false≢true (sym f))
are_empty top a (o ∷ os) (false ∷ bits) e h zero w f = h.0
are_empty top a (o ∷ os) (true ∷ bits) e h (suc i) w f = are_empty top o os bits (omega (arith, e)) h i (omega (arith, w)) f
are_empty top a (o ∷ os) (false ∷ bits) e h (suc i) w f = are_empty top o os bits (omega (arith, e)) h.1 i (omega (arith, w)) f

flat_back : (top a : ℕ) (zs : List ℤ) (bits : List Bool) → end_from a zs ≡ top → AreEmptyAfter a (map nat_of zs) bits → FlatFrom top a (map nat_of zs) bits
flat_back top a [] bits e h = e
flat_back top a (z ∷ zs) [] e h =
    flat_back top (nat_of z) zs [] (ap (λ n. end_from n zs) (sym (same_nat z)) ∙ e) (λ i w f. h (suc i) (omega (arith, w)) f)
flat_back top a (z ∷ zs) (true ∷ bits) e h =
    flat_back top (nat_of z) zs bits (ap (λ n. end_from n zs) (sym (same_nat z)) ∙ e) (λ i w f. h (suc i) (omega (arith, w)) f)
flat_back top a (z ∷ zs) (false ∷ bits) e h = (
  h zero (omega arith) refl,
  flat_back top (nat_of z) zs bits (ap (λ n. end_from n zs) (sym (same_nat z)) ∙ e) (λ i w f. h (suc i) (omega (arith, w)) f),
)

pub flat_is : (m : Option Bits) (zs : List ℤ) (top : ℕ) → MaskHasLength m (pred (length zs)) → 0 < length zs
    → IsFlat top (map nat_of zs) (mask_bits m (pred (length zs))) ↔ ((first_of zs ≡ 0) × (end_of zs ≡ top) × NullsAreEmpty m (map nat_of zs))
flat_is m [] top w h = absurd (omega (arith, h))
flat_is m (z ∷ zs) top w h =
    let n = length zs in
    let bits = mask_bits m n in
    let os = map nat_of zs in
    let same : length os ≡ n = length-map zs nat_of in (
      λ f. (
        same_nat z ∙ f.0,
        ap (λ k. end_from k zs) (same_nat z) ∙ ends_at top (nat_of z) zs bits f.1,
        λ i b v. are_empty top (nat_of z) os bits (mask_long m n w ∙ sym same) f.1 i b (bit_at m n i (omega (arith, b, same)) ∙ v),
      ),
      λ f. (
        sym (same_nat z) ∙ f.0,
        flat_back top (nat_of z) zs bits (ap (λ k. end_from k zs) (sym (same_nat z)) ∙ f.1) (λ i b v. f.2 i b (sym (bit_at m n i (omega (arith, b, same))) ∙ v)),
      ),
    )

-- ---- the offsets of a slot

nat_at : (zs : List ℤ) (i n : ℕ) → slice_get zs i ≡ Some (pos n) → get_or (map nat_of zs) i 0 ≡ n
nat_at [] i n e = cc
nat_at (z ∷ zs) zero n e = let h : z ≡ pos n = cc in ap nat_of h
nat_at (z ∷ zs) (suc i) n e = nat_at zs i n e

pub empty_is : (zs : List ℤ) (i s e : ℕ) → slice_get zs i ≡ Some (pos s) → slice_get zs (i + 1) ≡ Some (pos e) → IsTrue (nat_eq s e) ↔ IsEmptyAt (map nat_of zs) i
empty_is zs i s e h k =
    let next : suc i ≡ i + 1 = omega arith in
    let a : get_or (map nat_of zs) i 0 ≡ s = nat_at zs i s h in
    let b : get_or (map nat_of zs) (suc i) 0 ≡ e = nat_at zs (suc i) e (ap (slice_get zs) next ∙ k) in (
      λ t. let q : s ≡ e = eqb-true s e t in b ∙ sym q ∙ sym a,
      λ q. eq-eqb s e (sym a ∙ sym q ∙ b),
    )

-- by the numbers of offsets of one type
pub flat_of : {O : Type 0} (number : O → ℤ) (os : List O) (m : Option Bits) (top : ℕ) → MaskHasLength m (pred (length os)) → 0 < length os
    → IsFlat top (map nat_of (map number os)) (mask_bits m (pred (length os)))
    ↔ (((first_of (map number os) ≡ 0) × (end_of (map number os) ≡ top)) × NullsAreEmpty m (map nat_of (map number os)))
flat_of number os m top w h =
    let long : length (map number os) ≡ length os = length-map os number in
    let f = flat_is m (map number os) top (subst (λ n. MaskHasLength m (pred n)) (sym long) w) (omega (arith, long, h)) in (
      λ x. let y = f.0 (subst (λ n. IsFlat top (map nat_of (map number os)) (mask_bits m (pred n))) (sym long) x) in ((y.0, y.1), y.2),
      λ y. subst (λ n. IsFlat top (map nat_of (map number os)) (mask_bits m (pred n))) long (f.1 (y.0.0, y.0.1, y.1)),
    )
