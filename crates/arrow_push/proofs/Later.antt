-- What later pushes do, after a call that was refused and after slots were cut off.
use Rattle.std.proofs.Common.{◌≡◌, ℕ, ◌+◌, ◌≤◌, Bool, List, length, take, refl, ap, sym, subst, ◌∙◌, arith, Option, None}
use Rattle.std.specs.Prelude.{IsTrue, IsErrAnd, MatchResult, Result, Ok, Err}
use Rattle.std.proofs.lemmas.List.{length-append}
use Rattle.std.proofs.Math.Seq.{take-append_seam}
use Rattle.arrow_types.specs.TypeData.{TypeData}
use Rattle.arrow_flat.specs.Slots.{Slot}
use Rattle.arrow_flat.specs.Built.{Later, Built, later_of, SameLater, Starts, CutsAlike, Gains, IsUnchanged, IsCutTo}
use Rattle.arrow_push.specs.Masks.{with_nulls, count_or, cut_to, all_filled, built_under}
use Rattle.arrow_push.specs.Laws.{under_length}
use Rattle.arrow_push.proofs.Masks.{cut_under}

-- an error that `?` passed on
pub passed_on : {T E : Type 0} (r : Result T E) (e : E) (Q : T → Type 0) (P : E → Type 0) → IsErrAnd r (λ y. y ≡ e) → P e → MatchResult r Q P
passed_on (Ok x) e Q P is p = absurd is
passed_on (Err y) e Q P is p = subst P (sym is) p

pub same_refl : (a : Later) → SameLater a a
same_refl a = record { same_landing = λ ys. refl; same_refusal = λ ys. refl }

pub same_more : (a b c : Later) → SameLater a b → SameLater b c → SameLater a c
same_more a b c s t = record {
  same_landing = λ ys. t.same_landing ys ∙ s.same_landing ys;
  same_refusal = λ ys. t.same_refusal ys ∙ s.same_refusal ys;
}

pub gains_grow : (a b : Built) (ys : List Slot) → Gains a b ys → length a.slots ≤ length b.slots
gains_grow a b ys g =
    let l : length b.slots ≡ length a.slots + length (a.landing ys) =
    ap (λ (zs : List Slot). length zs) g.slots_are ∙ length-append a.slots (a.landing ys) in
    omega arith

pub alike_more : (a b c : Built) → length a.slots ≤ length b.slots → CutsAlike a b → CutsAlike b c → CutsAlike a c
alike_more a b c l s t = record {
  still_settled = t.still_settled;
  cuts = λ n h. same_more (a.after_cut n) (b.after_cut n) (c.after_cut n) (s.cuts n h) (t.cuts n (omega arith));
}

-- a call that left all as it was
pub same_unchanged : (a b : Built) → IsTrue a.whole → b ≡ a → IsUnchanged a b
same_unchanged a b w e =
    subst (IsUnchanged a) (sym e) (record {
      kept = record { same_slots = refl; same_type = refl; still_whole = w };
      later = λ h. same_refl (later_of a);
      undone = λ h. record { still_settled = h; cuts = λ n l. same_refl (a.after_cut n) };
    })

-- what was pushed and cut off again left no trace
module _ (a b c : Built) (ys : List Slot) (n : ℕ) (starts : Starts a) (gains : Gains a b ys) (count : n ≡ length a.slots) (cut : IsCutTo n b c) where
  back : IsCutTo (length a.slots) b c
  back = subst (λ k. IsCutTo k b c) count cut

  pub cut_unchanged : IsUnchanged a c
  cut_unchanged = record {
    kept = record {
      same_slots = back.slots_are ∙ (ap (λ xs. take (length a.slots) xs) gains.slots_are ∙ take-append_seam a.slots (a.landing ys));
      same_type = back.same_type ∙ gains.same_type;
      still_whole = back.still_whole gains.still_whole;
    };
    later = λ h.
        same_more (later_of a) (a.after_cut (length a.slots)) (later_of c) (starts.none_cut h)
        (same_more (a.after_cut (length a.slots)) (b.after_cut (length a.slots)) (later_of c) ((gains.undone h).cuts (length a.slots) (omega arith)) back.later);
    undone = λ h. record {
      still_settled = back.still_settled (gains.undone h).still_settled;
      cuts = λ k l. same_more (a.after_cut k) (b.after_cut k) (c.after_cut k) ((gains.undone h).cuts k l) (back.cuts k l);
    };
  }

-- ---- under a mask

module _ (blank : TypeData → Slot) (v : Built) (m : Option (List Bool)) (fits : count_or m (length v.slots) ≡ length v.slots) where
  within : (k : ℕ) → k ≤ length (with_nulls m v.slots) → k ≤ length v.slots
  within k l = let e : length (with_nulls m v.slots) ≡ length v.slots = under_length m v.slots fits in omega arith

  pub masked_alike : (w : Built) (n : Option (List Bool)) → w.dtype ≡ v.dtype → CutsAlike v w → CutsAlike (built_under blank v m) (built_under blank w n)
  masked_alike w n t s = record {
    still_settled = s.still_settled;
    cuts = λ k l. record {
      same_landing = λ ys. refl;
      same_refusal = λ ys.
          (s.cuts k (within k l)).same_refusal (all_filled (blank w.dtype) ys)
          ∙ ap (λ u. (v.after_cut k).refusal (all_filled (blank u) ys)) t;
    };
  }

  pub masked_unchanged : (w : Built) (n : Option (List Bool)) → n ≡ m → IsUnchanged v w
      → IsUnchanged (built_under blank v m) (built_under blank w n)
  masked_unchanged w n e u = record {
    kept = record {
      same_slots = ap (λ ys. with_nulls n ys) u.kept.same_slots ∙ ap (λ k. with_nulls k v.slots) e;
      same_type = u.kept.same_type;
      still_whole = refl;
    };
    later = λ h. record {
      same_landing = λ ys. refl;
      same_refusal = λ ys.
          (u.later h).same_refusal (all_filled (blank w.dtype) ys) ∙ ap (λ d. v.refusal (all_filled (blank d) ys)) u.kept.same_type;
    };
    undone = λ h. masked_alike w n u.kept.same_type (u.undone h);
  }

-- a mask still fits unchanged values, and the values still hold the blank under each null
pub kept_fits : (v w : Built) (m n : Option (List Bool)) → n ≡ m → IsUnchanged v w → count_or m (length v.slots) ≡ length v.slots
    → count_or n (length w.slots) ≡ length w.slots
kept_fits v w m n e u fits =
    ap (λ k. count_or k (length w.slots)) e ∙ subst (λ ys. count_or m (length ys) ≡ length ys) (sym u.kept.same_slots) fits

pub kept_bare : (blank : TypeData → Slot) (v w : Built) (m n : Option (List Bool)) → n ≡ m → IsUnchanged v w
    → all_filled (blank v.dtype) (with_nulls m v.slots) ≡ v.slots → all_filled (blank w.dtype) (with_nulls n w.slots) ≡ w.slots
kept_bare blank v w m n e u bare =
    ap (λ t. all_filled (blank t) (with_nulls n w.slots)) u.kept.same_type
    ∙ ap (λ k. all_filled (blank v.dtype) (with_nulls k w.slots)) e
    ∙ subst (λ ys. all_filled (blank v.dtype) (with_nulls m ys) ≡ ys) (sym u.kept.same_slots) bare

module _ (blank : TypeData → Slot) (v w : Built) (m o : Option (List Bool)) (n : ℕ) (cut : IsCutTo n v w) where
  masked_later : SameLater ((built_under blank v m).after_cut n) (later_of (built_under blank w o))
  masked_later = record {
    same_landing = λ ys. refl;
    same_refusal = λ ys.
        cut.later.same_refusal (all_filled (blank w.dtype) ys)
        ∙ ap (λ u. (v.after_cut n).refusal (all_filled (blank u) ys)) cut.same_type;
  }

  masked_cuts : (k : ℕ) → k ≤ n → SameLater ((built_under blank v m).after_cut k) ((built_under blank w o).after_cut k)
  masked_cuts k l = record {
    same_landing = λ ys. refl;
    same_refusal = λ ys.
        (cut.cuts k l).same_refusal (all_filled (blank w.dtype) ys)
        ∙ ap (λ u. (v.after_cut k).refusal (all_filled (blank u) ys)) cut.same_type;
  }

  pub masked_cut : o ≡ cut_to m n → IsCutTo n (built_under blank v m) (built_under blank w o)
  masked_cut mask = record {
    slots_are = cut_under v w m o n cut.slots_are mask;
    same_type = cut.same_type;
    still_whole = λ _. refl;
    still_settled = cut.still_settled;
    later = masked_later;
    cuts = masked_cuts;
  }

-- no slot and no mask is left
pub masked_emptied : (blank : TypeData → Slot) (v w : Built) (m o : Option (List Bool)) → o ≡ None → IsCutTo 0 v w
    → IsCutTo 0 (built_under blank v m) (built_under blank w o)
masked_emptied blank v w m o e cut = record {
  slots_are = ap (λ k. with_nulls k w.slots) e ∙ cut.slots_are;
  same_type = cut.same_type;
  still_whole = λ _. refl;
  still_settled = cut.still_settled;
  later = masked_later blank v w m o 0 cut;
  cuts = masked_cuts blank v w m o 0 cut;
}
