-- Slots under a mask, by the places that the mask keeps.
use Rattle.std.proofs.Common.{◌≡◌, ℕ, zero, suc, ◌<◌, Bool, true, false, cond, List, [], ◌∷◌, ◌++◌, length, map, get_or, flat_map, refl, ap, ap₂, sym, ◌∙◌, subst, arith, Option, Some, None}
use Rattle.std.specs.Prelude.{is_some, if◌then◌else◌}
use Rattle.std.specs.List.{AllByRecursion, list_all}
use Rattle.std.proofs.lemmas.Bool.{and_parts, false≢true}
use Rattle.std.proofs.lemmas.List.{map-append}
use Rattle.arrow_types.specs.TypeData.{TypeData}
use Rattle.arrow_buffers.specs.Bits.{Bits, plain, same, needed_mask}
use Rattle.arrow_flat.specs.Primitives.{MaskHasLength, valid_at}
use Rattle.arrow_flat.specs.Slots.{Slot, null, is_valid}
use Rattle.arrow_flat.proofs.Lists.{map-map}
use Rattle.arrow_layout.specs.Canon.{mask_of}
use Rattle.arrow_layout.specs.Denote.{masked, masked_by}
use Rattle.arrow_layout.specs.Forms.{Form, form_of}
use Rattle.arrow_layout.specs.SlotsOf.{fill}
use Rattle.arrow_layout.specs.WellFormed.{MaskFits}
use Rattle.arrow_layout.proofs.ByForm.{fill-form, fill_by}
use Rattle.arrow_canon.specs.Picks.{pick, picks, IsPlace, ArePlaces, valid_place, picked_mask}
use Rattle.arrow_canon.proofs.MaskedSlots.{all_valid}
use Rattle.arrow_canon.proofs.Picked.{map_on}
use Rattle.arrow_items.specs.Items.{kept_place, kept_places}

-- ---- lists, item by item

pub flat_map_on : {A B : Type 0} (P : A → Type 0) (f g : A → List B) → ((x : A) → P x → f x ≡ g x) → (xs : List A) → AllByRecursion P xs → flat_map f xs ≡ flat_map g xs
flat_map_on P f g h [] k = refl
flat_map_on P f g h (x ∷ xs) k = ap₂ (λ y ys. y ++ ys) (h x k.0) (flat_map_on P f g h xs k.1)

pub flat_map-after : {A B C : Type 0} (f : B → List C) (g : A → B) (xs : List A) → flat_map f (map g xs) ≡ flat_map (λ x. f (g x)) xs
flat_map-after f g [] = refl
flat_map-after f g (x ∷ xs) = ap (λ ys. f (g x) ++ ys) (flat_map-after f g xs)

pub map-flat_map : {A B C : Type 0} (f : B → C) (g : A → List B) (xs : List A) → map f (flat_map g xs) ≡ flat_map (λ x. map f (g x)) xs
map-flat_map f g [] = refl
map-flat_map f g (x ∷ xs) = map-append f (g x) (flat_map g xs) ∙ ap (λ ys. map f (g x) ++ ys) (map-flat_map f g xs)

pub map_at : {A B : Type 0} (f : A → B) (xs : List A) (i : ℕ) (d : A) (e : B) → i < length xs → get_or (map f xs) i e ≡ f (get_or xs i d)
map_at f [] i d e h = absurd (omega (arith, h))
map_at f (x ∷ xs) zero d e h = refl
map_at f (x ∷ xs) (suc i) d e h = map_at f xs i d e (omega (arith, h))

-- ---- a mask makes none of places

bits_at : (bits : List Bool) (xs : List Slot) (i : ℕ) → length bits ≡ length xs → i < length xs → get_or (masked_by bits xs) i null ≡ cond (get_or bits i false) (get_or xs i null) null
bits_at [] [] i e h = absurd (omega (arith, h))
bits_at [] (x ∷ xs) i e h = absurd (omega (arith, e))
bits_at (b ∷ bits) [] i e h = absurd (omega (arith, h))
bits_at (b ∷ bits) (x ∷ xs) zero e h = refl
bits_at (b ∷ bits) (x ∷ xs) (suc i) e h = bits_at bits xs i (omega (arith, e)) (omega (arith, h))

masked_at : (m : Option Bits) (xs : List Slot) (i : ℕ) → MaskHasLength m (length xs) → i < length xs → get_or (masked m xs) i null ≡ cond (valid_at m i) (get_or xs i null) null
masked_at None xs i f h = refl
masked_at (Some b) xs i f h = bits_at b.bits xs i f h

pick_by : (xs : List Slot) (i : ℕ) (b : Bool) → cond b (get_or xs i null) null ≡ pick null xs (cond b (Some i) None)
pick_by xs i true = refl
pick_by xs i false = refl

pick_masked : (m : Option Bits) (xs : List Slot) → MaskHasLength m (length xs) → (p : Option ℕ) → IsPlace (length xs) p → pick null (masked m xs) p ≡ pick null xs (kept_place m p)
pick_masked m xs f None h = refl
pick_masked m xs f (Some i) h = masked_at m xs i f h ∙ pick_by xs i (valid_at m i)

picks_masked : (m : Option Bits) (xs : List Slot) (ps : List (Option ℕ)) → MaskHasLength m (length xs) → ArePlaces (length xs) ps → picks null (masked m xs) ps ≡ picks null xs (kept_places m ps)
picks_masked m xs ps f h =
    map_on (IsPlace (length xs)) (pick null (masked m xs)) (λ p. pick null xs (kept_place m p)) (pick_masked m xs f) ps h
    ∙ sym (map-map (pick null xs) (kept_place m) ps)

pub mask_length : (m : Option Bits) (n : ℕ) → MaskFits m n → MaskHasLength m n
mask_length None n f = tt
mask_length (Some b) n f = f.0

-- the slots under a mask, of a kind whose filling is null
pub under_mask : (t : TypeData) (f : Form) (m : Option Bits) (xs : List Slot) (n : ℕ) (ps : List (Option ℕ)) → form_of t ≡ f → fill_by f ≡ null → length xs ≡ n → MaskFits m n → ArePlaces n ps
    → picks (fill t) (masked m xs) ps ≡ picks null xs (kept_places m ps)
under_mask t f m xs n ps e d len fits within =
    ap (λ x. picks x (masked m xs) ps) (fill-form t f e ∙ d)
    ∙ picks_masked m xs ps (mask_length m (length xs) (subst (MaskFits m) (sym len) fits)) (subst (λ k. ArePlaces k ps) (sym len) within)

kept_by : (n i : ℕ) (b : Bool) → i < n → IsPlace n (cond b (Some i) None)
kept_by n i true h = h
kept_by n i false h = tt

kept_is_place : (m : Option Bits) (n : ℕ) (p : Option ℕ) → IsPlace n p → IsPlace n (kept_place m p)
kept_is_place m n None h = tt
kept_is_place m n (Some i) h = kept_by n i (valid_at m i) h

pub kept_are_places : (m : Option Bits) (n : ℕ) (ps : List (Option ℕ)) → ArePlaces n ps → ArePlaces n (kept_places m ps)
kept_are_places m n [] h = tt
kept_are_places m n (p ∷ ps) h = (kept_is_place m n p h.0, kept_are_places m n ps h.1)

-- ---- the mask of slots that are picked from ones of which none is null

valid_slot : (xs : List Slot) (i : ℕ) → AllByRecursion (λ x. is_valid x ≡ true) xs → i < length xs → is_valid (get_or xs i null) ≡ true
valid_slot [] i v h = absurd (omega (arith, h))
valid_slot (x ∷ xs) zero v h = v.0
valid_slot (x ∷ xs) (suc i) v h = valid_slot xs i v.1 (omega (arith, h))

valid_by : (xs : List Slot) (i : ℕ) (b : Bool) → is_valid (get_or xs i null) ≡ true → is_valid (pick null xs (cond b (Some i) None)) ≡ b
valid_by xs i true h = h
valid_by xs i false h = refl

valid_kept : (m : Option Bits) (xs : List Slot) → AllByRecursion (λ x. is_valid x ≡ true) xs → (p : Option ℕ) → IsPlace (length xs) p → is_valid (pick null xs (kept_place m p)) ≡ valid_place m p
valid_kept m xs v None h = refl
valid_kept m xs v (Some i) h = valid_by xs i (valid_at m i) (valid_slot xs i v h)

pub mask_of_kept : (m : Option Bits) (xs : List Slot) (ps : List (Option ℕ)) → AllByRecursion (λ x. is_valid x ≡ true) xs → ArePlaces (length xs) ps
    → mask_of (picks null xs (kept_places m ps)) ≡ picked_mask m ps
mask_of_kept m xs ps v h =
    let s : List Slot = picks null xs (kept_places m ps) in
    let by_all : Bool → Option Bits = λ all. cond all None (Some (plain (map is_valid s))) in
    let bits : map is_valid s ≡ map (valid_place m) ps =
    map-map is_valid (pick null xs) (kept_places m ps) ∙ map-map (λ p. is_valid (pick null xs p)) (kept_place m) ps
    ∙ map_on (IsPlace (length xs)) (λ p. is_valid (pick null xs (kept_place m p))) (valid_place m) (valid_kept m xs v) ps h in
    ap by_all (all_valid s) ∙ ap (λ bs. needed_mask (plain bs)) bits

pub all_valid_map : {A : Type 0} (f : A → Slot) → ((x : A) → is_valid (f x) ≡ true) → (xs : List A) → AllByRecursion (λ x. is_valid x ≡ true) (map f xs)
all_valid_map f h [] = tt
all_valid_map f h (x ∷ xs) = (h x, all_valid_map f h xs)

-- ---- runs of kept places

pub kept_none : (ps : List (Option ℕ)) → kept_places None ps ≡ ps
kept_none [] = refl
kept_none (None ∷ ps) = ap (λ qs. None ∷ qs) (kept_none ps)
kept_none (Some i ∷ ps) = ap (λ qs. Some i ∷ qs) (kept_none ps)

kept_one : (p : Option ℕ) (b : Bool) → b ≡ true → cond b p None ≡ p
kept_one p b e = ap (λ c. cond c p None) e

all_kept : (m : Option Bits) (ps : List (Option ℕ)) → list_all same (map (valid_place m) ps) ≡ true → kept_places m ps ≡ ps
all_kept m [] h = refl
all_kept m (p ∷ ps) h = let both = and_parts (valid_place m p) (list_all same (map (valid_place m) ps)) h in ap₂ (λ q qs. q ∷ qs) (kept_one p (valid_place m p) both.0) (all_kept m ps both.1)

set_by : (b : Bits) (all : Bool) → is_some (if all then None else Some b) ≡ false → all ≡ true
set_by b true h = refl
set_by b false h = absurd (false≢true (sym h))

-- each place is kept where no bit is unset
pub kept_all : (m : Option Bits) (ps : List (Option ℕ)) → is_some (picked_mask m ps) ≡ false → kept_places m ps ≡ ps
kept_all m ps h = let bits = map (valid_place m) ps in all_kept m ps (set_by (plain bits) (list_all same bits) h)
