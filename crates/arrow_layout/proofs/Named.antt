-- The values of a canonical dictionary are the distinct slots, and its keys their places.
use Rattle.std.proofs.Common.{Bool, List, [], ap, arith, cond, false, get_or, length, map, max, negsuc, pos, refl, subst, suc, sym, take, take_all, true, zero, ℕ, ℤ, ⊎_elim, ◌++◌, ◌<◌, ◌∙◌, ◌∷◌, ◌≡◌, ◌≤◌}
use Rattle.std.proofs.lemmas.Bool.{and_parts, cases_Bool, cases_lt, false≢true, or_left, or_parts, or_right}
use Rattle.std.specs.List.{list_all}
use Rattle.arrow_types.specs.Carried.{IsBelow}
use Rattle.arrow_types.specs.Select.{nat_of}
use Rattle.arrow_flat.specs.Slots.{Slot, is_valid, null, slot_eq}
use Rattle.arrow_layout.specs.Canon.{distinct, distinct_after, first_place, is_among, key_in, seen_with}
use Rattle.arrow_layout.specs.Canonical.{GrowsFrom, NoneTwice}
use Rattle.arrow_layout.specs.Denote.{masked_by}
use Rattle.arrow_layout.specs.WellFormed.{AllSet}
use Rattle.arrow_layout.proofs.Distinct.{IsIn}
use Rattle.arrow_layout.proofs.SlotSame.{slot_itself, slot_same}

among_at : (d : List Slot) (n : ℕ) → n < length d → IsIn d (get_or d n null)
among_at [] n h = absurd (omega arith)
among_at (y ∷ ys) zero h = or_left _ _ (slot_itself y)
among_at (y ∷ ys) (suc n) h = or_right _ _ (among_at ys n (omega arith))

among_front_at : (d : List Slot) (k n : ℕ) → k < n → k < length d → IsIn (take n d) (get_or d k null)
among_front_at d k zero h l = absurd (omega arith)
among_front_at [] k (suc n) h l = absurd (omega arith)
among_front_at (y ∷ ys) zero (suc n) h l = or_left _ _ (slot_itself y)
among_front_at (y ∷ ys) (suc k) (suc n) h l = or_right _ _ (among_front_at ys k n (omega arith) (omega arith))

pub eq_sym : (x y : Slot) (b : Bool) → slot_eq x y ≡ b → slot_eq y x ≡ b
eq_sym x y true h = subst (λ z. slot_eq z x ≡ true) (slot_same x y h) (slot_itself x)
eq_sym x y false h = ⊎_elim (λ t. absurd (false≢true (sym h ∙ subst (λ z. slot_eq z y ≡ true) (slot_same y x t) (slot_itself y)))) (λ t. t) (cases_Bool (slot_eq y x))

-- a later slot is not the first
later_other : (y : Slot) (ys : List Slot) (k : ℕ) → is_among y ys ≡ false → k < length ys → slot_eq (get_or ys k null) y ≡ false
later_other y [] k h l = absurd (omega arith)
later_other y (z ∷ ys) zero h l = eq_sym y z false (or_parts _ _ h).0
later_other y (z ∷ ys) (suc k) h l = later_other y ys k (or_parts _ _ h).1 (omega arith)

pub place_get : (d : List Slot) (n : ℕ) → NoneTwice d → n < length d → first_place (get_or d n null) d ≡ n
place_get [] n h l = absurd (omega arith)
place_get (y ∷ ys) zero h l = rw (slot_itself y) refl
place_get (y ∷ ys) (suc n) h l = rw (later_other y ys n h.0 (omega arith)) (ap suc (place_get ys n h.1 (omega arith)))

not_among_front : (d : List Slot) (n : ℕ) → NoneTwice d → n < length d → is_among (get_or d n null) (take n d) ≡ false
not_among_front [] n h l = absurd (omega arith)
not_among_front (y ∷ ys) zero h l = refl
not_among_front (y ∷ ys) (suc n) h l = rw (later_other y ys n h.0 (omega arith), not_among_front ys n h.1 (omega arith)) refl

take_next : (d : List Slot) (n : ℕ) → n < length d → take n d ++ get_or d n null ∷ [] ≡ take (suc n) d
take_next [] n h = absurd (omega arith)
take_next (y ∷ ys) zero h = refl
take_next (y ∷ ys) (suc n) h = ap (λ zs. y ∷ zs) (take_next ys n (omega arith))

valid_at : (d : List Slot) (n : ℕ) → list_all is_valid d ≡ true → n < length d → is_valid (get_or d n null) ≡ true
valid_at [] n h l = absurd (omega arith)
valid_at (y ∷ ys) zero h l = (and_parts _ _ h).0
valid_at (y ∷ ys) (suc n) h l = valid_at ys n (and_parts _ _ h).1 (omega arith)

seen_by : (seen : List Slot) (x : Slot) (v b : Bool) → v ≡ true → b ≡ true → cond v (cond b seen (seen ++ x ∷ [])) seen ≡ seen
seen_by seen x true true e h = refl
seen_by seen x true false e h = absurd (false≢true h)
seen_by seen x false b e h = refl

new_by : (seen : List Slot) (x : Slot) (v b : Bool) → v ≡ true → b ≡ false → cond v (cond b seen (seen ++ x ∷ [])) seen ≡ seen ++ x ∷ []
new_by seen x true true e h = absurd (false≢true (sym h))
new_by seen x true false e h = refl
new_by seen x false b e h = absurd (false≢true e)

module _ (d : List Slot) (valid : list_all is_valid d ≡ true) (once : NoneTwice d) where
  -- the slot at key k
  at_key : ℤ → Slot
  at_key k = get_or d (nat_of k) null

  seen_next : (n k : ℕ) → k < length d → k ≤ n → seen_with (take n d) (get_or d k null) ≡ take (max n (suc k)) d
  seen_next n k l h =
      ⊎_elim
      (λ (below : k < n).
      let e : max n (suc k) ≡ n = omega arith in
      seen_by (take n d) (get_or d k null) _ _ (valid_at d k valid l) (among_front_at d k n below l) ∙ ap (λ i. take i d) (sym e))
      (λ (above : n ≤ k).
      let same : k ≡ n = omega arith in
      let e : max n (suc k) ≡ suc n = omega arith in
      new_by (take n d) (get_or d k null) _ _ (valid_at d k valid l) (subst (λ i. is_among (get_or d k null) (take i d) ≡ false) same (not_among_front d k once l))
      ∙ (subst (λ i. take n d ++ get_or d i null ∷ [] ≡ take (suc n) d) (sym same) (take_next d n (omega arith)) ∙ ap (λ i. take i d) (sym e)))
      (cases_lt k n)

  grown : (n : ℕ) (bits : List Bool) (ks : List ℤ) → length bits ≡ length ks → GrowsFrom (length d) n (map nat_of ks) bits → AllSet (IsBelow (length d)) bits ks
      → distinct_after (take n d) (masked_by bits (map (λ k. get_or d (nat_of k) null) ks)) ≡ d
  grown n [] [] e g h = take_all n d (omega arith)
  grown n [] (k ∷ ks) e g h = absurd (omega arith)
  grown n (b ∷ bits) [] e g h = absurd (omega arith)
  grown n (true ∷ bits) (pos k ∷ ks) e g h = rw (seen_next n k h.0 g.0) (grown (max n (suc k)) bits ks (omega arith) g.1 h.1)
  grown n (true ∷ bits) (negsuc k ∷ ks) e g h = absurd h.0
  grown n (false ∷ bits) (k ∷ ks) e g h = grown n bits ks (omega arith) g h

  pub distinct_back : (bits : List Bool) (ks : List ℤ) → length bits ≡ length ks → GrowsFrom (length d) 0 (map nat_of ks) bits → AllSet (IsBelow (length d)) bits ks
      → distinct (masked_by bits (map (λ k. get_or d (nat_of k) null) ks)) ≡ d
  distinct_back bits ks e g h = grown 0 bits ks e g h

  pub valid_key : (k : ℤ) → IsBelow (length d) k → is_valid (get_or d (nat_of k) null) ≡ true
  valid_key (pos n) h = valid_at d n valid h
  valid_key (negsuc n) h = absurd h

  key_by : (n : ℕ) (v : Bool) → v ≡ true → first_place (get_or d n null) d ≡ n → cond v (pos (first_place (get_or d n null) d)) (pos 0) ≡ pos n
  key_by n true e h = ap pos h
  key_by n false e h = absurd (false≢true e)

  pub key_back : (k : ℤ) → IsBelow (length d) k → key_in d (get_or d (nat_of k) null) ≡ k
  key_back (pos n) h = key_by n _ (valid_at d n valid h) (place_get d n once h)
  key_back (negsuc n) h = absurd h
