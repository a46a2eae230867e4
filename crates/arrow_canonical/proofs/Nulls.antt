-- What holds at each null, position by position.
use Rattle.std.proofs.Common.{◌≡◌, ◌↔◌, ℕ, zero, suc, ◌+◌, ◌<◌, Bool, true, false, IsTrue, List, [], ◌∷◌, length, get_or, drop, replicate, Option, Some, None, refl, sym, ◌∙◌, subst, arith}
use Rattle.std.specs.Prelude.{nat_eq, nat_lt, ◌≢◌}
use Rattle.std.proofs.lemmas.Bool.{eqb-false, eqb-true, false≢true, lt-ltb, ltb-true, true≢false}
use Rattle.std.proofs.lemmas.List.{get_or-replicate, length-replicate}
use Rattle.arrow_buffers.specs.Bits.{Bits, count_unset}
use Rattle.arrow_buffers.proofs.Bytes.{none_unset, some_unset}
use Rattle.arrow_flat.specs.Numbers.{zeros}
use Rattle.arrow_flat.specs.Pieces.{chunks}
use Rattle.arrow_flat.specs.Primitives.{HasBit, MaskHasLength, valid_at}
use Rattle.arrow_flat.specs.Views.{zero_view}
use Rattle.arrow_layout.specs.Canonical.{AllUnset, MaskIsNeeded}
use Rattle.arrow_layout.specs.Forms.{form_of, primitive_by}
use Rattle.arrow_layout.specs.Layouts.{Layout, booleans, primitives, fixed_size_binaries, views, length_of}
use Rattle.arrow_layout.specs.Masks.{valid_in}
use Rattle.arrow_layout.specs.WellFormed.{MaskFits, WellFormed, mask_bits}
use Rattle.arrow_canonical.specs.OwnForm.{IsZeroAt, NullsAreZero}

-- ---- one position more

next_by : (P : ℕ → Type 0) (i j : ℕ) → ((k : ℕ) → k < i → P k) → P i → j < i + 1 → (b : Bool) → nat_eq i j ≡ b → P j
next_by P i j h p w true e = subst P (eqb-true i j e) p
next_by P i j h p w false e = let ne : i ≢ j = eqb-false i j e in h j (omega (arith, w, ne))

pub each_next : (P : ℕ → Type 0) (i : ℕ) → ((k : ℕ) → k < i → P k) → P i → (j : ℕ) → j < i + 1 → P j
each_next P i h p j w = next_by P i j h p w (nat_eq i j) refl

-- ---- a mask that is needed

above_zero : (k : ℕ) → (k ≡ 0 → ⊥) → 0 < k
above_zero zero h = absurd (h refl)
above_zero (suc k) h = omega arith

pub needed : (b : Bits) (k : ℕ) → b.lead ≡ 0 → k ≡ count_unset b.bits → IsTrue (nat_lt 0 k) ↔ MaskIsNeeded (Some b)
needed b k lead e = (
  λ t. (lead, some_unset b.bits (λ z. let some : 0 < k = ltb-true 0 k t in omega (arith, some, e, z))),
  λ n. lt-ltb 0 k (above_zero k (λ z. true≢false (sym (none_unset b.bits (sym e ∙ z)) ∙ n.1))),
)

-- ---- bits of masks

pub mask_long : (m : Option Bits) (n : ℕ) → MaskHasLength m n → length (mask_bits m n) ≡ n
mask_long None n w = length-replicate n true
mask_long (Some b) n w = w

pub bit_at : (m : Option Bits) (n i : ℕ) → i < n → get_or (mask_bits m n) i false ≡ valid_at m i
bit_at None n i h = get_or-replicate n i true false h
bit_at (Some b) n i h = refl

pub fits_long : (m : Option Bits) (n : ℕ) → MaskFits m n → MaskHasLength m n
fits_long None n w = tt
fits_long (Some b) n w = w.0

-- ---- at each unset bit

module _ {A : Type 0} (P : A → Type 0) (d : A) where
  at_each : (bits : List Bool) (xs : List A) → length bits ≡ length xs → AllUnset P bits xs → (i : ℕ) → i < length xs → get_or bits i false ≡ false → P (get_or xs i d)
  at_each [] [] e h i w f = absurd (omega (arith, w))
  at_each [] (x ∷ xs) e h i w f = absurd (omega (arith, e))
  at_each (b ∷ bits) [] e h i w f = absurd (omega (arith, w))
  at_each (true ∷ bits) (x ∷ xs) e h zero w f = absurd (false≢true (sym f))
  at_each (false ∷ bits) (x ∷ xs) e h zero w f = h.0
  at_each (true ∷ bits) (x ∷ xs) e h (suc i) w f = at_each bits xs (omega (arith, e)) h i (omega (arith, w)) f
  at_each (false ∷ bits) (x ∷ xs) e h (suc i) w f = at_each bits xs (omega (arith, e)) h.1 i (omega (arith, w)) f

  from_each : (bits : List Bool) (xs : List A) → ((i : ℕ) → i < length xs → get_or bits i false ≡ false → P (get_or xs i d)) → AllUnset P bits xs
  from_each [] xs h = tt
  from_each (b ∷ bits) [] h = tt
  from_each (true ∷ bits) (x ∷ xs) h = from_each bits xs (λ i w f. h (suc i) (omega (arith, w)) f)
  from_each (false ∷ bits) (x ∷ xs) h = (h zero (omega arith) refl, from_each bits xs (λ i w f. h (suc i) (omega (arith, w)) f))

  pub masked_each : (m : Option Bits) (n : ℕ) (xs : List A) → MaskHasLength m n → length xs ≡ n
      → ((i : ℕ) → i < n → valid_at m i ≡ false → P (get_or xs i d)) ↔ AllUnset P (mask_bits m n) xs
  masked_each m n xs w e = (
    λ h. from_each (mask_bits m n) xs (λ i b f. let c : i < n = omega (arith, b, e) in h i c (sym (bit_at m n i c) ∙ f)),
    λ h i b f. at_each (mask_bits m n) xs (mask_long m n w ∙ sym e) h i (omega (arith, b, e)) (bit_at m n i b ∙ f),
  )

pub length-chunks : {A : Type 0} (k n : ℕ) (xs : List A) → length (chunks k n xs) ≡ n
length-chunks k zero xs = refl
length-chunks k (suc n) xs = omega (arith, length-chunks k n (drop k xs))

pub nulls_zero : (l : Layout) → WellFormed l → ((i : ℕ) → i < length_of l → valid_in l i ≡ false → IsZeroAt l i) ↔ NullsAreZero l
nulls_zero (booleans t m vs) w = masked_each (λ b. b ≡ false) false m (length vs.bits) vs.bits (fits_long m (length vs.bits) w.0.mask) refl
nulls_zero (primitives t m vs) w = masked_each (λ v. v ≡ zeros (primitive_by (form_of t))) [] m (length vs) vs (fits_long m (length vs) w.0.mask) refl
nulls_zero (fixed_size_binaries t m k n bs) w =
    masked_each (λ v. v ≡ replicate k 0) [] m n (chunks k n bs) (fits_long m n w.0.mask) (length-chunks k n bs)
nulls_zero (views t m vs buffers) w = masked_each (λ v. v ≡ zero_view) zero_view m (length vs) vs (fits_long m (length vs) w.0.mask) refl
nulls_zero _ w = (λ h. tt, λ h i b f. tt)

pub has_bit : (m : Option Bits) (n i : ℕ) → MaskHasLength m n → i < n → HasBit m i
has_bit None n i w h = tt
has_bit (Some b) n i w h = omega (arith, w, h)
