-- Slots of values under a mask.
use Rattle.std.proofs.Common.{◌≡◌, ℕ, ◌+◌, ◌-◌, ◌<◌, ◌≤◌, zero, suc, Bool, true, false, cond, List, [], ◌∷◌, ◌++◌, map, length, take, drop, get_or, slice_get, refl, ap, sym, ◌∙◌, arith, add-one, lit<, Option, Some, None}
use Rattle.std.specs.Prelude.{if◌then◌else◌}
use Rattle.std.specs.List.{list_all}
use Rattle.std.specs.Simd.Lanes.{zip2}
use Rattle.std.proofs.lemmas.Nat.{mod_below}
use Rattle.arrow_buffers.specs.Bits.{Bits, same, cut_bits, lead_of, needed_mask}
use Rattle.arrow_buffers.proofs.Windows.{window_length}
use Rattle.arrow_flat.specs.Primitives.{MaskHasLength, IsLed, cut_mask, masked_values, valid_at}

-- ---- a mask that fits
-- what no mask and the mask of these bits keep, the needed one keeps
needed_keeps : (P : Option Bits → Type 0) → P None → (b : Bits) → P (Some b) → P (needed_mask b)
needed_keeps P n b h = by (list_all same b.bits)
  where
    by : (all : Bool) → P (if all then None else Some b)
    by true = n
    by false = h

pub cut_fits : (m : Option Bits) (n o k : ℕ) → MaskHasLength m n → o + k ≤ n → MaskHasLength (cut_mask o k m) k
cut_fits None n o k h l = tt
cut_fits (Some b) n o k h l =
    needed_keeps (λ m. MaskHasLength m k) tt (cut_bits b o k) (sym (window_length b.bits o k (omega arith)))

led_below : (start n : ℕ) → lead_of start n < 8
led_below start zero = lit< tt
led_below start (suc n) = mod_below start 8 (lit< tt)

pub cut_led : (m : Option Bits) (o k : ℕ) → IsLed (cut_mask o k m)
cut_led None o k = tt
cut_led (Some b) o k = needed_keeps IsLed tt (cut_bits b o k) (led_below (b.lead + o) k)

-- ---- slots

module _ {T : Type 0} where
  abbrev under : Bool → T → Option T
  under bit x = cond bit (Some x) None

  bits_at : (bits : List Bool) (xs : List T) (i : ℕ) (x : T) → length bits ≡ length xs → slice_get xs i ≡ Some x
      → slice_get (zip2 under bits xs) i ≡ Some (under (get_or bits i false) x)
  bits_at [] [] i x h e = cc
  bits_at [] (y ∷ ys) i x h e = absurd (omega arith)
  bits_at (b ∷ bs) [] i x h e = absurd (omega arith)
  bits_at (b ∷ bs) (y ∷ ys) zero x h e = ap (λ o. Some (under b o)) (by e)
    where
      by : Some y ≡ Some x → y ≡ x
      by e = cc
  bits_at (b ∷ bs) (y ∷ ys) (suc i) x h e = bits_at bs ys i x (omega arith) e

  map_at : (xs : List T) (i : ℕ) (x : T) → slice_get xs i ≡ Some x → slice_get (map Some xs) i ≡ Some (Some x)
  map_at [] i x e = cc
  map_at (y ∷ ys) zero x e = ap Some e
  map_at (y ∷ ys) (suc i) x e = map_at ys i x e

  pub slot_at : (m : Option Bits) (xs : List T) (i : ℕ) (x : T) → MaskHasLength m (length xs) → slice_get xs i ≡ Some x
      → slice_get (masked_values m xs) i ≡ Some (under (valid_at m i) x)
  slot_at None xs i x h e = map_at xs i x e
  slot_at (Some b) xs i x h e = bits_at b.bits xs i x h e

  bits_none : (bits : List Bool) (xs : List T) (i : ℕ) → length bits ≡ length xs → i < length xs → get_or bits i false ≡ false
      → slice_get (zip2 under bits xs) i ≡ Some None
  bits_none [] [] i h l e = absurd (omega arith)
  bits_none [] (y ∷ ys) i h l e = absurd (omega arith)
  bits_none (b ∷ bs) [] i h l e = absurd (omega arith)
  bits_none (b ∷ bs) (y ∷ ys) zero h l e = ap (λ b. Some (under b y)) e
  bits_none (b ∷ bs) (y ∷ ys) (suc i) h l e = bits_none bs ys i (omega arith) (omega arith) e

  pub null_at : (m : Option Bits) (xs : List T) (i : ℕ) → MaskHasLength m (length xs) → i < length xs → valid_at m i ≡ false
      → slice_get (masked_values m xs) i ≡ Some None
  null_at None xs i h l e = cc
  null_at (Some b) xs i h l e = bits_none b.bits xs i h l e

  zip_length : (bits : List Bool) (xs : List T) → length bits ≡ length xs → length (zip2 under bits xs) ≡ length xs
  zip_length [] [] h = refl
  zip_length [] (y ∷ ys) h = absurd (omega arith)
  zip_length (b ∷ bs) [] h = absurd (omega arith)
  zip_length (b ∷ bs) (y ∷ ys) h = ap suc (zip_length bs ys (omega arith))

  map_length : (xs : List T) → length (map Some xs) ≡ length xs
  map_length [] = refl
  map_length (x ∷ xs) = ap suc (map_length xs)

  pub slots_length : (m : Option Bits) (xs : List T) → MaskHasLength m (length xs) → length (masked_values m xs) ≡ length xs
  slots_length None xs h = map_length xs
  slots_length (Some b) xs h = zip_length b.bits xs h

-- ---- the items that are left of a list
module _ {T : Type 0} where
  pub drop_at : (xs : List T) (i : ℕ) (x : T) → slice_get xs i ≡ Some x → drop i xs ≡ x ∷ drop (i + 1) xs
  drop_at xs i x e = rw add-one (by xs i e)
    where
      by : (xs : List T) (i : ℕ) → slice_get xs i ≡ Some x → drop i xs ≡ x ∷ drop (suc i) xs
      by [] i e = cc
      by (y ∷ ys) zero e = ap (λ o. o ∷ ys) (inner y e)
        where
          inner : (y : T) → Some y ≡ Some x → y ≡ x
          inner y e = cc
      by (y ∷ ys) (suc i) e = by ys i e

  pub take_at : (xs : List T) (i : ℕ) (x : T) → slice_get xs i ≡ Some x → take (i + 1) xs ≡ take i xs ++ x ∷ []
  take_at xs i x e = rw add-one (by xs i e)
    where
      by : (xs : List T) (i : ℕ) → slice_get xs i ≡ Some x → take (suc i) xs ≡ take i xs ++ x ∷ []
      by [] i e = cc
      by (y ∷ ys) zero e = ap (λ o. o ∷ []) (inner y e)
        where
          inner : (y : T) → Some y ≡ Some x → y ≡ x
          inner y e = cc
      by (y ∷ ys) (suc i) e = ap (λ zs. y ∷ zs) (by ys i e)

  pub get_drop : (xs : List T) (n i : ℕ) → slice_get (drop n xs) i ≡ slice_get xs (n + i)
  get_drop xs zero i = let q : i ≡ 0 + i = omega arith in ap (slice_get xs) q
  get_drop [] (suc n) i = refl
  get_drop (x ∷ xs) (suc n) i = let q : suc (n + i) ≡ suc n + i = omega arith in get_drop xs n i ∙ ap (slice_get (x ∷ xs)) q

  pub left_first : (xs : List T) (front back : ℕ) (x : T) → slice_get xs front ≡ Some x → front < back
      → take (back - front) (drop front xs) ≡ x ∷ take (back - (front + 1)) (drop (front + 1) xs)
  left_first xs front back x e h =
      let q : back - front ≡ suc (back - (front + 1)) = omega arith in
      ap (take (back - front)) (drop_at xs front x e) ∙ ap (λ n. take n (x ∷ drop (front + 1) xs)) q

  pub left_last : (xs : List T) (front back : ℕ) (x : T) → slice_get xs (back - 1) ≡ Some x → front < back
      → take (back - front) (drop front xs) ≡ take (back - 1 - front) (drop front xs) ++ x ∷ []
  left_last xs front back x e h =
      let q : back - front ≡ back - 1 - front + 1 = omega arith in
      let p : front + (back - 1 - front) ≡ back - 1 = omega arith in
      ap (λ n. take n (drop front xs)) q
      ∙ take_at (drop front xs) (back - 1 - front) x (get_drop xs front (back - 1 - front) ∙ ap (slice_get xs) p ∙ e)
