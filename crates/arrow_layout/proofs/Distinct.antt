-- The distinct slots of a list, and the place of each slot among them.
use Rattle.std.proofs.Common.{Bool, List, [], cond, false, get_or, refl, suc, sym, true, ⊎_elim, ◌++◌, ◌∙◌, ◌∷◌, ◌≡◌}
use Rattle.std.proofs.lemmas.Bool.{false≢true, or_cases, or_left, or_right}
use Rattle.std.specs.List.{AllByRecursion}
use Rattle.arrow_flat.specs.Slots.{Slot, is_valid, null, slot_eq}
use Rattle.arrow_layout.specs.Canon.{distinct_after, first_place, is_among, seen_with}
use Rattle.arrow_flat.proofs.Lists.{all_join}
use Rattle.arrow_layout.proofs.SlotSame.{slot_itself, slot_same}

abbrev pub IsIn : List Slot → Slot → Type 0
IsIn d x = is_among x d ≡ true

pub among_front : (x : Slot) (xs ys : List Slot) → IsIn xs x → IsIn (xs ++ ys) x
among_front x [] ys h = absurd (false≢true h)
among_front x (z ∷ xs) ys h = ⊎_elim (λ e. or_left _ _ e) (λ e. or_right _ _ (among_front x xs ys e)) (or_cases _ _ h)

pub among_end : (x : Slot) (xs : List Slot) → IsIn (xs ++ x ∷ []) x
among_end x [] = or_left _ _ (slot_itself x)
among_end x (z ∷ xs) = or_right _ _ (among_end x xs)

kept_by : (seen : List Slot) (x y : Slot) (v b : Bool) → IsIn seen y → IsIn (cond v (cond b seen (seen ++ x ∷ [])) seen) y
kept_by seen x y true true h = h
kept_by seen x y true false h = among_front y seen (x ∷ []) h
kept_by seen x y false b h = h

pub kept : (seen xs : List Slot) (y : Slot) → IsIn seen y → IsIn (distinct_after seen xs) y
kept seen [] y h = h
kept seen (x ∷ xs) y h = kept (seen_with seen x) xs y (kept_by seen x y (is_valid x) (is_among x seen) h)

taken_by : (seen : List Slot) (x : Slot) (v b : Bool) → is_among x seen ≡ b → v ≡ true → IsIn (cond v (cond b seen (seen ++ x ∷ [])) seen) x
taken_by seen x true true h e = h
taken_by seen x true false h e = among_end x seen
taken_by seen x false b h e = absurd (false≢true e)

pub all_taken : (seen xs : List Slot) → AllByRecursion (λ x. is_valid x ≡ true → IsIn (distinct_after seen xs) x) xs
all_taken seen [] = tt
all_taken seen (x ∷ xs) = (λ e. kept (seen_with seen x) xs x (taken_by seen x (is_valid x) (is_among x seen) refl e), all_taken (seen_with seen x) xs)

at_place : (b : Bool) (x y : Slot) (ys : List Slot) → slot_eq x y ≡ b → (b ≡ false → get_or ys (first_place x ys) null ≡ x) → get_or (y ∷ ys) (cond b 0 (suc (first_place x ys))) null ≡ x
at_place true x y ys e h = sym (slot_same x y e)
at_place false x y ys e h = h refl

pub get_place : (x : Slot) (d : List Slot) → IsIn d x → get_or d (first_place x d) null ≡ x
get_place x [] h = absurd (false≢true h)
get_place x (y ∷ ys) h =
    at_place (slot_eq x y) x y ys refl (λ e. get_place x ys (⊎_elim (λ t. absurd (false≢true (sym e ∙ t))) (λ t. t) (or_cases _ _ h)))

-- what holds of each valid slot holds of the distinct ones
module _ (P : Slot → Type 0) where
  all_seen : (seen : List Slot) (x : Slot) (v b : Bool) → is_valid x ≡ v → (is_valid x ≡ true → P x) → AllByRecursion P seen → AllByRecursion P (cond v (cond b seen (seen ++ x ∷ [])) seen)
  all_seen seen x true true e h k = k
  all_seen seen x true false e h k = all_join P seen (x ∷ []) k (h e, tt)
  all_seen seen x false b e h k = k

  pub all_distinct : (seen xs : List Slot) → AllByRecursion P seen → AllByRecursion (λ x. is_valid x ≡ true → P x) xs → AllByRecursion P (distinct_after seen xs)
  all_distinct seen [] k h = k
  all_distinct seen (x ∷ xs) k h = all_distinct (seen_with seen x) xs (all_seen seen x (is_valid x) (is_among x seen) refl h.0 k) h.1
