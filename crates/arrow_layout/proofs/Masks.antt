-- What the canonical mask leaves of the values.
use Rattle.std.proofs.Common.{List, [], ap₂, cond, map, refl, true, ⊎_elim, ◌∷◌, ◌≡◌}
use Rattle.std.proofs.lemmas.Bool.{and_parts, cases_Bool}
use Rattle.std.specs.List.{AllByRecursion, list_all}
use Rattle.arrow_flat.specs.Slots.{Slot, bool, bytes, chosen, is_valid, items, null, num, parts}
use Rattle.arrow_layout.specs.Canon.{mask_of}
use Rattle.arrow_layout.specs.Denote.{masked, masked_by}

-- the function leaves the slot, unless it is null
abbrev pub Keeps : (Slot → Slot) → Slot → Type 0
Keeps f x = is_valid x ≡ true → f x ≡ x

one_masked : (f : Slot → Slot) (x : Slot) → Keeps f x → cond (is_valid x) (f x) null ≡ x
one_masked f null h = refl
one_masked f (bool b) h = h refl
one_masked f (num zs) h = h refl
one_masked f (bytes bs) h = h refl
one_masked f (items xs) h = h refl
one_masked f (parts xs) h = h refl
one_masked f (chosen t x) h = h refl

some_masked : (f : Slot → Slot) (s : List Slot) → AllByRecursion (Keeps f) s → masked_by (map is_valid s) (map f s) ≡ s
some_masked f [] h = refl
some_masked f (x ∷ xs) h = ap₂ (λ y ys. y ∷ ys) (one_masked f x h.0) (some_masked f xs h.1)

none_masked : (f : Slot → Slot) (s : List Slot) → AllByRecursion (Keeps f) s → list_all is_valid s ≡ true → map f s ≡ s
none_masked f [] h e = refl
none_masked f (x ∷ xs) h e = let both = and_parts (is_valid x) (list_all is_valid xs) e in ap₂ (λ y ys. y ∷ ys) (h.0 both.0) (none_masked f xs h.1 both.1)

pub masked_map : (f : Slot → Slot) (s : List Slot) → AllByRecursion (Keeps f) s → masked (mask_of s) (map f s) ≡ s
masked_map f s h = ⊎_elim (λ e. rw e (none_masked f s h e)) (λ e. rw e (some_masked f s h)) (cases_Bool (list_all is_valid s))
