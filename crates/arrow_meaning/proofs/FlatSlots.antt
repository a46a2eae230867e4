-- Values under a mask, as slots.
use Rattle.std.proofs.Common.{◌≡◌, Bool, true, false, cond, List, [], ◌∷◌, map, length, refl, ap, arith, Option, Some, None}
use Rattle.std.specs.Simd.Lanes.{zip2}
use Rattle.arrow_buffers.specs.Bits.{Bits}
use Rattle.arrow_flat.specs.Primitives.{MaskHasLength}
use Rattle.arrow_flat.specs.Primitives as flat
use Rattle.arrow_flat.specs.Slots.{Slot, null, slot_or_null}
use Rattle.arrow_layout.specs.Denote.{masked, masked_by}

module _ {A : Type 0} (f : A → Slot) where
  all_valid : (xs : List A) → map f xs ≡ map (slot_or_null f) (map Some xs)
  all_valid [] = refl
  all_valid (x ∷ xs) = ap (λ ys. f x ∷ ys) (all_valid xs)

  by_bits : (bits : List Bool) (xs : List A) → length bits ≡ length xs
      → masked_by bits (map f xs) ≡ map (slot_or_null f) (zip2 (λ bit x. cond bit (Some x) None) bits xs)
  by_bits [] [] h = refl
  by_bits [] (x ∷ xs) h = absurd (omega arith)
  by_bits (b ∷ bits) [] h = absurd (omega arith)
  by_bits (true ∷ bits) (x ∷ xs) h = ap (λ ys. f x ∷ ys) (by_bits bits xs (omega arith))
  by_bits (false ∷ bits) (x ∷ xs) h = ap (λ ys. null ∷ ys) (by_bits bits xs (omega arith))

  -- the one law of all kinds
  pub denotes : (m : Option Bits) (xs : List A) → MaskHasLength m (length xs) → masked m (map f xs) ≡ map (slot_or_null f) (flat.masked_values m xs)
  denotes None xs h = all_valid xs
  denotes (Some b) xs h = by_bits b.bits xs h
