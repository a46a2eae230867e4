-- Slots of values under a mask.
use Rattle.std.proofs.Common.{◌≡◌, Bool, true, false, cond, List, [], ◌∷◌, ◌++◌, length, map, flat_map, refl, ap, ap₂, arith, Option, Some, None}
use Rattle.std.specs.Prelude.{◌&&◌}
use Rattle.std.specs.List.{list_all}
use Rattle.std.specs.Simd.Lanes.{zip2}
use Rattle.arrow_buffers.specs.Bits.{Bits, same}
use Rattle.arrow_flat.specs.Primitives.{MaskHasLength, masked_values as option_masked}
use Rattle.arrow_flat.specs.Slots.{Slot, null, is_valid}
use Rattle.arrow_layout.specs.Denote.{masked, masked_by}

pub flat_map-same : {A B : Type 0} (f g : A → List B) → ((x : A) → f x ≡ g x) → (xs : List A) → flat_map f xs ≡ flat_map g xs
flat_map-same f g h [] = refl
flat_map-same f g h (x ∷ xs) = ap₂ (λ y ys. y ++ ys) (h x) (flat_map-same f g h xs)

pub all_valid : (s : List Slot) → list_all is_valid s ≡ list_all same (map is_valid s)
all_valid [] = refl
all_valid (x ∷ s) = ap (λ b. is_valid x && b) (all_valid s)

-- ---- slots under a mask

module _ {A : Type 0} (f : A → Slot) where
  -- the slot of an optional value
  abbrev pub slot_of : Option A → Slot
  slot_of None = null
  slot_of (Some x) = f x

  one : (bit : Bool) (x : A) → cond bit (f x) null ≡ slot_of (cond bit (Some x) None)
  one true x = refl
  one false x = refl

  all_slots : (xs : List A) → map f xs ≡ map slot_of (map Some xs)
  all_slots [] = refl
  all_slots (x ∷ xs) = ap (λ s. f x ∷ s) (all_slots xs)

  some_slots : (bits : List Bool) (xs : List A) → length bits ≡ length xs
      → masked_by bits (map f xs) ≡ map slot_of (zip2 (λ bit x. cond bit (Some x) None) bits xs)
  some_slots [] [] h = refl
  some_slots [] (x ∷ xs) h = absurd (omega (arith, h))
  some_slots (bit ∷ bits) [] h = refl
  some_slots (bit ∷ bits) (x ∷ xs) h = ap₂ (λ y ys. y ∷ ys) (one bit x) (some_slots bits xs (omega (arith, h)))

  pub masked_slots : (m : Option Bits) (xs : List A) → MaskHasLength m (length xs) → masked m (map f xs) ≡ map slot_of (option_masked m xs)
  masked_slots None xs h = all_slots xs
  masked_slots (Some b) xs h = some_slots b.bits xs h
