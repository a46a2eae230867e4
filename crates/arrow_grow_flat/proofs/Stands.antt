-- Values that stand for slots.
use Rattle.std.proofs.Common.{◌≡◌, ℕ, zero, suc, Bool, true, false, cond, List, [], ◌∷◌, ◌++◌, map, length, take, drop, replicate, Option, Some, None, refl, ap, ap₂, sym, ◌∙◌, subst}
use Rattle.std.specs.List.{AllByRecursion}
use Rattle.std.proofs.lemmas.List.{map-append}
use Rattle.arrow_flat.proofs.Lists.{all_join}
use Rattle.arrow_flat.specs.Slots.{Slot, null, bool, num, bytes, items, parts, chosen, is_valid}
use Rattle.arrow_layout.specs.Cut.{part}
use Rattle.arrow_layout.specs.Denote.{masked_by}
use Rattle.arrow_grow_flat.specs.Grown.{Room}
use Rattle.arrow_grow_flat.specs.Masks.{more_bits}
use Rattle.arrow_grow_flat.specs.Values.{StandsFor, StandFor, IsMaskOf, values_under, Values, StandForMore, HoldsSlots}

abbrev pub IsValid : Slot → Type 0
IsValid x = is_valid x ≡ true

null_slot : (x : Slot) → is_valid x ≡ false → x ≡ null
null_slot null e = refl
null_slot (bool b) e = cc
null_slot (num zs) e = cc
null_slot (bytes bs) e = cc
null_slot (items xs) e = cc
null_slot (parts xs) e = cc
null_slot (chosen t x) e = cc

-- the bits that a mask takes for more slots; without a mask none of these is null
abbrev pub AreBitsOf : Option (List Bool) → List Bool → List Slot → Type 0
AreBitsOf None bs xs = AllByRecursion IsValid xs
AreBitsOf (Some bits) bs xs = bs ≡ map is_valid xs

module _ (P : Slot → Type 0) where
  pub stand_length : (vs s : List Slot) → StandFor P vs s → length s ≡ length vs
  stand_length [] [] h = refl
  stand_length [] (x ∷ xs) h = absurd h
  stand_length (v ∷ vs) [] h = absurd h
  stand_length (v ∷ vs) (x ∷ xs) h = ap suc (stand_length vs xs h.1)

  pub stand_join : (vs s ws xs : List Slot) → StandFor P vs s → StandFor P ws xs → StandFor P (vs ++ ws) (s ++ xs)
  stand_join [] [] ws xs h k = k
  stand_join [] (y ∷ ys) ws xs h k = absurd h
  stand_join (v ∷ vs) [] ws xs h k = absurd h
  stand_join (v ∷ vs) (y ∷ ys) ws xs h k = (h.0, stand_join vs ys ws xs h.1 k)

  pub stand_nulls : (v : Slot) (n : ℕ) → P v → StandFor P (replicate n v) (replicate n null)
  stand_nulls v zero p = tt
  stand_nulls v (suc n) p = (record { same = λ e. absurd (cc); blank = λ e. p }, stand_nulls v n p)

  stand_drop : (o : ℕ) (vs s : List Slot) → StandFor P vs s → StandFor P (drop o vs) (drop o s)
  stand_drop zero vs s h = h
  stand_drop (suc o) [] [] h = tt
  stand_drop (suc o) [] (x ∷ xs) h = absurd h
  stand_drop (suc o) (v ∷ vs) [] h = absurd h
  stand_drop (suc o) (v ∷ vs) (x ∷ xs) h = stand_drop o vs xs h.1

  stand_take : (n : ℕ) (vs s : List Slot) → StandFor P vs s → StandFor P (take n vs) (take n s)
  stand_take zero vs s h = tt
  stand_take (suc n) [] [] h = tt
  stand_take (suc n) [] (x ∷ xs) h = absurd h
  stand_take (suc n) (v ∷ vs) [] h = absurd h
  stand_take (suc n) (v ∷ vs) (x ∷ xs) h = (h.0, stand_take n vs xs h.1)

  pub stand_part : (o n : ℕ) (vs s : List Slot) → StandFor P vs s → StandFor P (part o n vs) (part o n s)
  stand_part o n vs s h = stand_take n (drop o vs) (drop o s) (stand_drop o vs s h)

  pub stand_alone : (vs : List Slot) → AllByRecursion IsValid vs → StandFor P vs vs
  stand_alone [] h = tt
  stand_alone (v ∷ vs) h = (record { same = λ e. refl; blank = λ e. absurd (let q = h.0 in cc) }, stand_alone vs h.1)

  one_shown : (v x : Slot) (b : Bool) → is_valid x ≡ b → StandsFor P v x → cond b v null ≡ x
  one_shown v x true e h = h.same e
  one_shown v x false e h = sym (null_slot x e)

  some_shown : (vs s : List Slot) → StandFor P vs s → masked_by (map is_valid s) vs ≡ s
  some_shown [] [] h = refl
  some_shown [] (x ∷ xs) h = absurd h
  some_shown (v ∷ vs) [] h = absurd h
  some_shown (v ∷ vs) (x ∷ xs) h = ap₂ (λ y ys. y ∷ ys) (one_shown v x (is_valid x) refl h.0) (some_shown vs xs h.1)

  none_shown : (vs s : List Slot) → StandFor P vs s → AllByRecursion IsValid s → vs ≡ s
  none_shown [] [] h k = refl
  none_shown [] (x ∷ xs) h k = absurd h
  none_shown (v ∷ vs) [] h k = absurd h
  none_shown (v ∷ vs) (x ∷ xs) h k = ap₂ (λ y ys. y ∷ ys) (h.0.same k.0) (none_shown vs xs h.1 k.1)

  pub shown : (m : Option (List Bool)) (vs s : List Slot) → IsMaskOf m s → StandFor P vs s → values_under m vs ≡ s
  shown None vs s k h = none_shown vs s h k
  shown (Some bits) vs s k h = ap (λ bs. masked_by bs vs) k ∙ some_shown vs s h

  mask_more : (m : Option (List Bool)) (bs : List Bool) (s xs : List Slot) → IsMaskOf m s → AreBitsOf m bs xs → IsMaskOf (more_bits bs m) (s ++ xs)
  mask_more None bs s xs h k = all_join IsValid s xs h k
  mask_more (Some bits) bs s xs h k = ap₂ (λ cs ds. cs ++ ds) h k ∙ sym (map-append is_valid s xs)

  module _ (v w : Values) (m n : Option (List Bool)) (bs : List Bool) (s xs : List Slot) (same : s ≡ values_under m v.slots) (holds : HoldsSlots P v m s)
      (grew : w.dtype ≡ v.dtype) (more : StandForMore P v xs w s) (mask : n ≡ more_bits bs m) (bits : AreBitsOf m bs xs) where
    is_mask : IsMaskOf n (s ++ xs)
    is_mask = subst (λ k. IsMaskOf k (s ++ xs)) (sym mask) (mask_more m bs s xs holds.mask bits)

    -- the values under the mask are the slots with those appended
    pub slots_grown : values_under n w.slots ≡ s ++ xs
    slots_grown = shown n w.slots (s ++ xs) is_mask more.stand

    pub holds_grown : HoldsSlots P w n (values_under n w.slots)
    holds_grown =
        subst (HoldsSlots P w n) (sym slots_grown)
        (record { stand = more.stand; mask = is_mask; room = subst (λ t. Room t (s ++ xs)) (sym grew) more.room })
