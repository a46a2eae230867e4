-- Lists, and what holds of all their items.
use Rattle.std.proofs.Common.{List, [], ap, ap₂, drop, flat_map, map, refl, replicate, suc, take, zero, ℕ, ◌++◌, ◌∷◌, ◌≡◌}
use Rattle.std.specs.List.{AllByRecursion}
use Rattle.arrow_flat.specs.Slots.{Slot, Slots, no_slots, slots_of, slot, list_of_slots}

pub map-map : {A B C : Type 0} (g : B → C) (f : A → B) (xs : List A) → map g (map f xs) ≡ map (λ x. g (f x)) xs
map-map g f [] = refl
map-map g f (x ∷ xs) = ap (λ ys. g (f x) ∷ ys) (map-map g f xs)

pub map-same : {A B : Type 0} (f g : A → B) → ((x : A) → f x ≡ g x) → (xs : List A) → map f xs ≡ map g xs
map-same f g h [] = refl
map-same f g h (x ∷ xs) = ap₂ (λ y ys. y ∷ ys) (h x) (map-same f g h xs)

pub map-itself : {A : Type 0} (xs : List A) → map (λ x. x) xs ≡ xs
map-itself [] = refl
map-itself (x ∷ xs) = ap (λ ys. x ∷ ys) (map-itself xs)

pub all_weaker : {X : Type 0} (P Q : X → Type 0) → ((x : X) → P x → Q x) → (xs : List X) → AllByRecursion P xs → AllByRecursion Q xs
all_weaker P Q f [] h = tt
all_weaker P Q f (x ∷ xs) h = (f x h.0, all_weaker P Q f xs h.1)

pub all_map : {A B : Type 0} (P : A → Type 0) (Q : B → Type 0) (f : A → B) → ((x : A) → P x → Q (f x)) → (xs : List A) → AllByRecursion P xs → AllByRecursion Q (map f xs)
all_map P Q f h [] k = tt
all_map P Q f h (x ∷ xs) k = (h x k.0, all_map P Q f h xs k.1)

pub all_join : {B : Type 0} (Q : B → Type 0) (xs ys : List B) → AllByRecursion Q xs → AllByRecursion Q ys → AllByRecursion Q (xs ++ ys)
all_join Q [] ys h k = k
all_join Q (x ∷ xs) ys h k = (h.0, all_join Q xs ys h.1 k)

pub all_flat_map : {A B : Type 0} (P : A → Type 0) (Q : B → Type 0) (f : A → List B) → ((x : A) → P x → AllByRecursion Q (f x)) → (xs : List A) → AllByRecursion P xs → AllByRecursion Q (flat_map f xs)
all_flat_map P Q f h [] k = tt
all_flat_map P Q f h (x ∷ xs) k = all_join Q (f x) (flat_map f xs) (h x k.0) (all_flat_map P Q f h xs k.1)

pub all_replicate : {B : Type 0} (Q : B → Type 0) (n : ℕ) (x : B) → Q x → AllByRecursion Q (replicate n x)
all_replicate Q zero x h = tt
all_replicate Q (suc n) x h = (h, all_replicate Q n x h)

pub all_any : {B : Type 0} (Q : B → Type 0) → ((x : B) → Q x) → (xs : List B) → AllByRecursion Q xs
all_any Q f [] = tt
all_any Q f (x ∷ xs) = (f x, all_any Q f xs)

pub all_both : {B : Type 0} (P Q : B → Type 0) (xs : List B) → AllByRecursion P xs → AllByRecursion Q xs → AllByRecursion (λ x. P x × Q x) xs
all_both P Q [] h k = tt
all_both P Q (x ∷ xs) h k = ((h.0, k.0), all_both P Q xs h.1 k.1)

module _ {A : Type 0} (P : A → Type 0) where
  pub all_take : (n : ℕ) (xs : List A) → AllByRecursion P xs → AllByRecursion P (take n xs)
  all_take zero xs h = tt
  all_take (suc n) [] h = tt
  all_take (suc n) (x ∷ xs) h = (h.0, all_take n xs h.1)

  pub all_drop : (n : ℕ) (xs : List A) → AllByRecursion P xs → AllByRecursion P (drop n xs)
  all_drop zero xs h = h
  all_drop (suc n) [] h = tt
  all_drop (suc n) (x ∷ xs) h = all_drop n xs h.1

pub packed-unpacked : (xs : Slots) → slots_of (list_of_slots xs) ≡ xs
packed-unpacked no_slots = refl
packed-unpacked (slot x xs) = ap (slot x) (packed-unpacked xs)

pub unpacked-packed : (xs : List Slot) → list_of_slots (slots_of xs) ≡ xs
unpacked-packed [] = refl
unpacked-packed (x ∷ xs) = ap (λ ys. x ∷ ys) (unpacked-packed xs)

pub drop_none : {A : Type 0} (cs : List (List A)) → map (drop 0) cs ≡ cs
drop_none [] = refl
drop_none (c ∷ cs) = ap (λ ds. c ∷ ds) (drop_none cs)
