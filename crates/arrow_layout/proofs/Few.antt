-- Different slots that are all among others are no more than these.
-- without the first slot that is x
use Rattle.std.proofs.Common.{Bool, List, [], ap, arith, cond, false, get_or, inl, inr, length, length-take, refl, subst, suc, sym, take, true, zero, ℕ, ⊎_elim, ◌<◌, ◌∙◌, ◌∷◌, ◌≡◌, ◌≤◌, ◌⊎◌}
use Rattle.std.proofs.lemmas.Bool.{false≢true, or_cases, or_left, or_parts, or_right}
use Rattle.std.specs.List.{AllByRecursion}
use Rattle.arrow_flat.specs.Slots.{Slot, is_valid, null, slot_eq}
use Rattle.arrow_layout.specs.Canon.{is_among}
use Rattle.arrow_layout.specs.Canonical.{NoneTwice}
use Rattle.arrow_layout.proofs.Distinct.{IsIn}
use Rattle.arrow_layout.proofs.Named.{eq_sym}
use Rattle.arrow_layout.proofs.SlotSame.{slot_itself, slot_same}

without : Slot → List Slot → List Slot
without x [] = []
without x (y ∷ ys) = cond (slot_eq x y) ys (y ∷ without x ys)

length-without : (x : Slot) (ys : List Slot) → IsIn ys x → suc (length (without x ys)) ≡ length ys
unfolding without
length-without x [] h = absurd (false≢true h)
length-without x (y ∷ ys) h = by (slot_eq x y) (λ e. length-without x ys (⊎_elim (λ t. absurd (false≢true (sym e ∙ t))) (λ t. t) (or_cases _ _ h))) where
  by : (b : Bool) → (b ≡ false → suc (length (without x ys)) ≡ length ys) → suc (length (cond b ys (y ∷ without x ys))) ≡ suc (length ys)
  by true f = refl
  by false f = ap suc (f refl)

still_in : (x z : Slot) (ys : List Slot) → slot_eq z x ≡ false → IsIn ys z → IsIn (without x ys) z
unfolding without
still_in x z [] e h = absurd (false≢true h)
still_in x z (y ∷ ys) e h = by (slot_eq x y) refl (or_cases _ _ h) (λ k. still_in x z ys e k) where
  by : (b : Bool) → slot_eq x y ≡ b → (slot_eq z y ≡ true) ⊎ IsIn ys z → (IsIn ys z → IsIn (without x ys) z) → IsIn (cond b ys (y ∷ without x ys)) z
  by true s (inr k) f = k
  by true s (inl k) f = absurd (false≢true (sym e ∙ subst (λ v. slot_eq z v ≡ true) (sym (slot_same x y s)) k))
  by false s (inl k) f = or_left _ _ k
  by false s (inr k) f = or_right _ _ (f k)

later_differs : (x : Slot) (ys : List Slot) → is_among x ys ≡ false → AllByRecursion (λ z. slot_eq z x ≡ false) ys
later_differs x [] h = tt
later_differs x (y ∷ ys) h = let both = or_parts (slot_eq x y) (is_among x ys) h in (eq_sym x y false both.0, later_differs x ys both.1)

all_still : (x : Slot) (e d : List Slot) → AllByRecursion (λ z. slot_eq z x ≡ false) d → AllByRecursion (IsIn e) d → AllByRecursion (IsIn (without x e)) d
all_still x e [] n h = tt
all_still x e (z ∷ d) n h = (still_in x z e n.0 h.0, all_still x e d n.1 h.1)

-- different slots that are all among others are no more than these
pub few : (d e : List Slot) → NoneTwice d → AllByRecursion (IsIn e) d → length d ≤ length e
few [] e n h = omega arith
few (x ∷ d) e n h = omega (arith, few d (without x e) n.1 (all_still x e d (later_differs x d n.0) h.1), length-without x e h.0)

pub in_take : (cap k : ℕ) (xs : List Slot) → k < cap → is_valid (get_or xs k null) ≡ true → IsIn (take cap xs) (get_or xs k null)
in_take cap k [] h v = absurd (false≢true v)
in_take zero k (x ∷ xs) h v = absurd (omega arith)
in_take (suc cap) zero (x ∷ xs) h v = or_left _ _ (slot_itself x)
in_take (suc cap) (suc k) (x ∷ xs) h v = or_right _ _ (in_take cap k xs (omega arith) v)

pub from_take : (cap : ℕ) (xs : List Slot) (x : Slot) → IsIn (take cap xs) x → IsIn xs x
from_take zero xs x h = absurd (false≢true h)
from_take (suc cap) [] x h = h
from_take (suc cap) (y ∷ xs) x h = ⊎_elim (λ e. or_left _ _ e) (λ e. or_right _ _ (from_take cap xs x e)) (or_cases _ _ h)

pub few_taken : (cap : ℕ) (d xs : List Slot) → NoneTwice d → AllByRecursion (IsIn (take cap xs)) d → length d ≤ cap
few_taken cap d xs n h = omega (arith, few d (take cap xs) n h, length-take cap xs)
