-- Picked slots, by the optional values of the array that they are picked from.
use Rattle.std.proofs.Common.{◌≡◌, ℕ, zero, suc, ◌<◌, Bool, true, false, cond, List, [], ◌∷◌, length, map, get_or, refl, ap, ap₂, sym, ◌∙◌, subst, arith, Option, Some, None}
use Rattle.std.specs.Prelude.{is_some, unwrap_or}
use Rattle.std.specs.List.{AllByRecursion, list_all}
use Rattle.std.specs.Simd.Lanes.{zip2}
use Rattle.std.proofs.lemmas.List.{length-map}
use Rattle.std.proofs.Math.ListN.{get_or-map}
use Rattle.arrow_buffers.specs.Bits.{Bits, plain, same, needed_mask}
use Rattle.arrow_flat.specs.Primitives.{MaskHasLength, valid_at, masked_values as option_masked}
use Rattle.arrow_flat.specs.Slots.{Slot, null, is_valid}
use Rattle.arrow_flat.proofs.Lists.{map-map, map-same}
use Rattle.arrow_types.specs.TypeData.{TypeData}
use Rattle.arrow_layout.specs.Canon.{mask_of}
use Rattle.arrow_layout.specs.Denote.{masked}
use Rattle.arrow_layout.specs.SlotsOf.{fill}
use Rattle.arrow_canon.specs.Picks.{pick, picks, IsPlace, ArePlaces, valid_place, picked_mask}
use Rattle.arrow_canon.specs.Steps.{values_or}
use Rattle.arrow_canon.proofs.MaskedSlots.{slot_of, masked_slots, all_valid}

pub map_on : {A B : Type 0} (P : A → Type 0) (f g : A → B) → ((x : A) → P x → f x ≡ g x) → (xs : List A) → AllByRecursion P xs → map f xs ≡ map g xs
map_on P f g h [] k = refl
map_on P f g h (x ∷ xs) k = ap₂ (λ y ys. y ∷ ys) (h x k.0) (map_on P f g h xs k.1)

-- ---- a function that keeps what stands where there is no position

module _ {A B : Type 0} (f : A → B) (d : A) (xs : List A) where
  pick_mapped : (p : Option ℕ) → pick (f d) (map f xs) p ≡ f (pick d xs p)
  pick_mapped None = refl
  pick_mapped (Some i) = get_or-map f xs i d

  pub picks_mapped : (ps : List (Option ℕ)) → picks (f d) (map f xs) ps ≡ map f (picks d xs ps)
  picks_mapped ps = map-same (pick (f d) (map f xs)) (λ p. f (pick d xs p)) pick_mapped ps ∙ sym (map-map f (pick d xs) ps)

-- the values at places, and another where there is none
pub values_picked : {T : Type 0} (d : T) (ys : List (Option T)) (ps : List (Option ℕ)) → picks d (values_or d ys) ps ≡ values_or d (picks None ys ps)
values_picked d ys ps = picks_mapped (λ x. unwrap_or x d) None ys ps

-- ---- slots under a mask

module _ {A : Type 0} (f : A → Slot) where
  pub picked_slots : (t : TypeData) (m : Option Bits) (xs : List A) (ps : List (Option ℕ)) → fill t ≡ null → MaskHasLength m (length xs)
      → picks (fill t) (masked m (map f xs)) ps ≡ map (slot_of f) (picks None (option_masked m xs) ps)
  picked_slots t m xs ps e fits =
      ap (λ d. picks d (masked m (map f xs)) ps) e ∙ ap (λ ys. picks null ys ps) (masked_slots f m xs fits) ∙ picks_mapped (slot_of f) None (option_masked m xs) ps

  module _ (valid : (x : A) → is_valid (f x) ≡ true) where
    one_valid : (x : Option A) → is_valid (slot_of f x) ≡ is_some x
    one_valid None = refl
    one_valid (Some x) = valid x

    pub mask_of_options : (ys : List (Option A)) → mask_of (map (slot_of f) ys) ≡ needed_mask (plain (map is_some ys))
    mask_of_options ys =
        let s : List Slot = map (slot_of f) ys in
        let by_all : Bool → Option Bits = λ all. cond all None (Some (plain (map is_valid s))) in
        let bits : map is_valid s ≡ map is_some ys = map-map is_valid (slot_of f) ys ∙ map-same (λ x. is_valid (slot_of f x)) is_some one_valid ys in
        ap by_all (all_valid s) ∙ ap (λ bs. needed_mask (plain bs)) bits

-- ---- the mask of values at places

all_some : {A : Type 0} (xs : List A) (i : ℕ) → i < length xs → is_some (get_or (map Some xs) i None) ≡ true
all_some [] i h = absurd (omega (arith, h))
all_some (x ∷ xs) zero h = refl
all_some (x ∷ xs) (suc i) h = all_some xs i (omega (arith, h))

one_some : {A : Type 0} (bit : Bool) (x : A) → is_some (cond bit (Some x) None) ≡ bit
one_some true x = refl
one_some false x = refl

some_bits : {A : Type 0} (bits : List Bool) (xs : List A) (i : ℕ) → length bits ≡ length xs → i < length xs
    → is_some (get_or (zip2 (λ bit x. cond bit (Some x) None) bits xs) i None) ≡ get_or bits i false
some_bits [] [] i e h = absurd (omega (arith, h))
some_bits [] (x ∷ xs) i e h = absurd (omega (arith, e))
some_bits (bit ∷ bits) [] i e h = absurd (omega (arith, h))
some_bits (bit ∷ bits) (x ∷ xs) zero e h = one_some bit x
some_bits (bit ∷ bits) (x ∷ xs) (suc i) e h = some_bits bits xs i (omega (arith, e)) (omega (arith, h))

masked_some : {A : Type 0} (m : Option Bits) (xs : List A) (i : ℕ) → MaskHasLength m (length xs) → i < length xs → is_some (get_or (option_masked m xs) i None) ≡ valid_at m i
masked_some None xs i f h = all_some xs i h
masked_some (Some b) xs i f h = some_bits b.bits xs i f h

module _ {A : Type 0} (m : Option Bits) (xs : List A) (fits : MaskHasLength m (length xs)) where
  one_place : (p : Option ℕ) → IsPlace (length xs) p → is_some (pick None (option_masked m xs) p) ≡ valid_place m p
  one_place None h = refl
  one_place (Some i) h = masked_some m xs i fits h

  pub bits_picked : (ps : List (Option ℕ)) → ArePlaces (length xs) ps → map is_some (picks None (option_masked m xs) ps) ≡ map (valid_place m) ps
  bits_picked ps h =
      map-map is_some (pick None (option_masked m xs)) ps
      ∙ map_on (IsPlace (length xs)) (λ p. is_some (pick None (option_masked m xs) p)) (valid_place m) one_place ps h

-- the canonical mask of slots at places
pub mask_picked : {A : Type 0} (f : A → Slot) → ((x : A) → is_valid (f x) ≡ true) → (m : Option Bits) (xs : List A) (ps : List (Option ℕ))
    → MaskHasLength m (length xs) → ArePlaces (length xs) ps → mask_of (map (slot_of f) (picks None (option_masked m xs) ps)) ≡ picked_mask m ps
mask_picked f valid m xs ps fits h = mask_of_options f valid (picks None (option_masked m xs) ps) ∙ ap (λ bs. needed_mask (plain bs)) (bits_picked m xs fits ps h)

needed_fits : (b : Bits) (all : Bool) → MaskHasLength (cond all None (Some b)) (length b.bits)
needed_fits b true = tt
needed_fits b false = refl

-- it fits as many values
pub mask_fits : (m : Option Bits) (ps : List (Option ℕ)) (n : ℕ) → n ≡ length ps → MaskHasLength (picked_mask m ps) n
mask_fits m ps n e =
    let bits = map (valid_place m) ps in
    subst (MaskHasLength (picked_mask m ps)) (length-map ps (valid_place m) ∙ sym e) (needed_fits (plain bits) (list_all same bits))
