-- What pushes on a builder under a mask do to what it stands for.
use Rattle.std.proofs.Common.{◌≡◌, ℕ, ◌+◌, ◌≤◌, Bool, true, List, [], ◌∷◌, ◌++◌, length, refl, ap, sym, subst, ◌∙◌, arith, inl, inr, Option, Some, None}
use Rattle.std.specs.Prelude.{◌⊎◌}
use Rattle.arrow_types.specs.declared.error.PolarsError.{PolarsError}
use Rattle.arrow_types.specs.declared.error.PolarsError.TheVariants.{OutOfMemory}
use Rattle.std.proofs.lemmas.List.{length-append, map-append}
use Rattle.arrow_types.specs.TypeData.{TypeData}
use Rattle.arrow_flat.specs.Slots.{Slot, is_valid}
use Rattle.arrow_flat.specs.Built.{Built, Takes, IsUnchanged}
use Rattle.arrow_push.specs.Masks.{with_nulls, count_or, with_bit, appended_mask, filled, all_filled, built_under}
use Rattle.arrow_push.proofs.Masks.{at, under_bit, under_mask, bit_fits, mask_fits, bare_bit, bare_mask, filled_valid}
use Rattle.arrow_push.proofs.Later.{gains_grow, masked_alike}

-- ---- pushes

module _ (blank : TypeData → Slot) where
  -- the values took the slot's value, and the mask its bit
  pub takes_bit : (v w : Built) (m : Option (List Bool)) (x : Slot) (bit : Bool)
      → ((ys : List Slot) → v.landing ys ≡ ys)
      → count_or m (length v.slots) ≡ length v.slots
      → filled (blank v.dtype) (at bit x) ≡ x
      → Takes v w (x ∷ [])
      → Takes (built_under blank v m) (built_under blank w (with_bit m (length v.slots) bit)) (at bit x ∷ [])
  takes_bit v w m x bit plain e f t =
      let grown : w.slots ≡ v.slots ++ x ∷ [] = t.held.slots_are ∙ ap (λ zs. v.slots ++ zs) (plain (x ∷ [])) in
      let kind : blank w.dtype ≡ blank v.dtype = ap blank t.held.same_type in
      record {
        held = record {
          slots_are = ap (λ zs. with_nulls (with_bit m (length v.slots) bit) zs) grown ∙ under_bit m v.slots x bit e;
          same_type = t.held.same_type;
          still_whole = refl;
          undone = λ h. masked_alike blank v m e w (with_bit m (length v.slots) bit) t.held.same_type (t.held.undone h);
        };
        accepted = ap (λ y. v.refusal (y ∷ [])) f ∙ t.accepted;
        even = refl;
        later_refusal = λ zs.
            ap (λ b. w.refusal (all_filled b zs)) kind
            ∙ (t.later_refusal (all_filled (blank v.dtype) zs) ∙ ap (λ y. v.refusal (y ∷ all_filled (blank v.dtype) zs)) (sym f));
        later_landing = λ zs. refl;
      }

  -- the values took the others' values, and the mask the others' mask
  pub takes_mask : (v w o : Built) (m n : Option (List Bool))
      → ((ys : List Slot) → v.landing ys ≡ ys)
      → count_or m (length v.slots) ≡ length v.slots
      → count_or n (length o.slots) ≡ length o.slots
      → all_filled (blank o.dtype) (with_nulls n o.slots) ≡ o.slots
      → o.dtype ≡ v.dtype
      → Takes v w o.slots
      → Takes (built_under blank v m) (built_under blank w (appended_mask m (length v.slots) n (length o.slots))) (with_nulls n o.slots)
  takes_mask v w o m n plain d e c k t =
      let grown : w.slots ≡ v.slots ++ o.slots = t.held.slots_are ∙ ap (λ zs. v.slots ++ zs) (plain o.slots) in
      let kind : blank w.dtype ≡ blank v.dtype = ap blank t.held.same_type in
      let f : all_filled (blank v.dtype) (with_nulls n o.slots) ≡ o.slots = ap (λ t. all_filled (blank t) (with_nulls n o.slots)) (sym k) ∙ c in
      record {
        held = record {
          slots_are = ap (λ zs. with_nulls (appended_mask m (length v.slots) n (length o.slots)) zs) grown ∙ under_mask m n v.slots o.slots d e;
          same_type = t.held.same_type;
          still_whole = refl;
          undone = λ h. masked_alike blank v m d w (appended_mask m (length v.slots) n (length o.slots)) t.held.same_type (t.held.undone h);
        };
        accepted = ap (λ ys. v.refusal ys) f ∙ t.accepted;
        even = refl;
        later_refusal = λ zs.
            ap (λ b. w.refusal (all_filled b zs)) kind
            ∙ (t.later_refusal (all_filled (blank v.dtype) zs)
            ∙ (ap (λ ys. v.refusal (ys ++ all_filled (blank v.dtype) zs)) (sym f)
            ∙ ap v.refusal (sym (map-append (filled (blank v.dtype)) (with_nulls n o.slots) zs))));
        later_landing = λ zs. refl;
      }

-- ---- after a slot was appended

module _ (blank : TypeData → Slot) (v w : Built) (m o : Option (List Bool)) (n : ℕ) (x : Slot) (bit : Bool) (plain : (ys : List Slot) → v.landing ys ≡ ys) (count : n ≡ length v.slots) (mask : o ≡ with_bit m n bit) (fits : count_or m (length v.slots) ≡ length v.slots) (t : Takes v w (x ∷ [])) where
  grown : w.slots ≡ v.slots ++ x ∷ []
  grown = t.held.slots_are ∙ ap (λ zs. v.slots ++ zs) (plain (x ∷ []))

  masked : o ≡ with_bit m (length v.slots) bit
  masked = mask ∙ ap (λ k. with_bit m k bit) count

  pub fits_after : count_or o (length w.slots) ≡ length w.slots
  fits_after =
      let l : length w.slots ≡ length v.slots + 1 = ap (λ (zs : List Slot). length zs) grown ∙ length-append v.slots (x ∷ []) in
      subst (λ k. count_or o k ≡ k) (sym l) (ap (λ p. count_or p (length v.slots + 1)) masked ∙ bit_fits m (length v.slots) bit fits)

  pub bare_after : all_filled (blank v.dtype) (with_nulls m v.slots) ≡ v.slots → filled (blank v.dtype) (at bit x) ≡ x
      → all_filled (blank w.dtype) (with_nulls o w.slots) ≡ w.slots
  bare_after b f =
      ap (λ z. all_filled (blank z) (with_nulls o w.slots)) t.held.same_type
      ∙ (ap (λ p. all_filled (blank v.dtype) (with_nulls p w.slots)) masked
      ∙ (ap (λ zs. all_filled (blank v.dtype) (with_nulls (with_bit m (length v.slots) bit) zs)) grown
      ∙ (bare_bit (blank v.dtype) m v.slots x bit fits b f ∙ sym grown)))

  pub takes_after : filled (blank v.dtype) (at bit x) ≡ x → Takes (built_under blank v m) (built_under blank w o) (at bit x ∷ [])
  takes_after f =
      subst (λ p. Takes (built_under blank v m) (built_under blank w p) (at bit x ∷ [])) (sym masked) (takes_bit blank v w m x bit plain fits f t)

-- ---- after the slots of another builder were appended

module _ (blank : TypeData → Slot) (v w u : Built) (m o p : Option (List Bool)) (n k : ℕ) (plain : (ys : List Slot) → v.landing ys ≡ ys) (count : n ≡ length v.slots) (others : k ≡ length u.slots) (mask : o ≡ appended_mask m n p k) (fits : count_or m (length v.slots) ≡ length v.slots) (fit : count_or p (length u.slots) ≡ length u.slots) (t : Takes v w u.slots) where
  widened : w.slots ≡ v.slots ++ u.slots
  widened = t.held.slots_are ∙ ap (λ zs. v.slots ++ zs) (plain u.slots)

  joined : o ≡ appended_mask m (length v.slots) p (length u.slots)
  joined = mask ∙ (ap (λ i. appended_mask m i p k) count ∙ ap (λ i. appended_mask m (length v.slots) p i) others)

  pub fits_joined : count_or o (length w.slots) ≡ length w.slots
  fits_joined =
      let l : length w.slots ≡ length v.slots + length u.slots = ap (λ (zs : List Slot). length zs) widened ∙ length-append v.slots u.slots in
      subst (λ i. count_or o i ≡ i) (sym l) (ap (λ q. count_or q (length v.slots + length u.slots)) joined ∙ mask_fits m p (length v.slots) (length u.slots) fits fit)

  pub bare_joined : u.dtype ≡ v.dtype → all_filled (blank v.dtype) (with_nulls m v.slots) ≡ v.slots → all_filled (blank u.dtype) (with_nulls p u.slots) ≡ u.slots
      → all_filled (blank w.dtype) (with_nulls o w.slots) ≡ w.slots
  bare_joined e b c =
      ap (λ z. all_filled (blank z) (with_nulls o w.slots)) t.held.same_type
      ∙ (ap (λ q. all_filled (blank v.dtype) (with_nulls q w.slots)) joined
      ∙ (ap (λ zs. all_filled (blank v.dtype) (with_nulls (appended_mask m (length v.slots) p (length u.slots)) zs)) widened
      ∙ (bare_mask (blank v.dtype) m p v.slots u.slots fits fit b (ap (λ z. all_filled (blank z) (with_nulls p u.slots)) (sym e) ∙ c) ∙ sym widened)))

  pub takes_joined : u.dtype ≡ v.dtype → all_filled (blank u.dtype) (with_nulls p u.slots) ≡ u.slots
      → Takes (built_under blank v m) (built_under blank w o) (with_nulls p u.slots)
  takes_joined e c =
      subst (λ q. Takes (built_under blank v m) (built_under blank w q) (with_nulls p u.slots)) (sym joined) (takes_mask blank v w u m p plain fits fit c e t)

  pub not_refused : u.dtype ≡ v.dtype → all_filled (blank u.dtype) (with_nulls p u.slots) ≡ u.slots
      → v.refusal (all_filled (blank v.dtype) (with_nulls p u.slots)) ≡ None
  not_refused e c = ap v.refusal (ap (λ z. all_filled (blank z) (with_nulls p u.slots)) (sym e) ∙ c) ∙ t.accepted

-- ---- sizes

pub takes_grow : (v w : Built) (ys : List Slot) → Takes v w ys → length v.slots ≤ length w.slots
takes_grow v w ys t = gains_grow v w ys t.held

pub unchanged_grow : (v w : Built) → IsUnchanged v w → length v.slots ≤ length w.slots
unchanged_grow v w u = let a : length w.slots ≡ length v.slots = ap (λ (zs : List Slot). length zs) u.kept.same_slots in omega arith

-- ---- refusals

-- a value that is refused is refused under a mask too
pub refused_value : (blank : TypeData → Slot) (v : Built) (m : Option (List Bool)) (begins : Slot → Type 0) (e : PolarsError)
    → ((y : Slot) → begins y → is_valid y ≡ true)
    → ((e ≡ OutOfMemory) ⊎ ((y : Slot) × begins y × (v.refusal (y ∷ []) ≡ Some e)))
    → (e ≡ OutOfMemory) ⊎ ((y : Slot) × begins y × ((built_under blank v m).refusal (y ∷ []) ≡ Some e))
refused_value blank v m begins e solid (inl r) = inl r
refused_value blank v m begins e solid (inr p) =
    inr (p.0, p.1, ap (λ z. v.refusal (z ∷ [])) (filled_valid (blank v.dtype) p.0 (solid p.0 p.1)) ∙ p.2)

-- and so are the values of another builder
pub refused_others : (blank : TypeData → Slot) (v u : Built) (m o : Option (List Bool)) (e : PolarsError) → u.dtype ≡ v.dtype
    → all_filled (blank u.dtype) (with_nulls o u.slots) ≡ u.slots
    → ((e ≡ OutOfMemory) ⊎ (v.refusal u.slots ≡ Some e))
    → (e ≡ OutOfMemory) ⊎ ((built_under blank v m).refusal (built_under blank u o).slots ≡ Some e)
refused_others blank v u m o e k bare (inl r) = inl r
refused_others blank v u m o e k bare (inr p) =
    inr (ap v.refusal (ap (λ t. all_filled (blank t) (with_nulls o u.slots)) (sym k) ∙ bare) ∙ p)
