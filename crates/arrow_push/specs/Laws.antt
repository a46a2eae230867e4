-- What builders keep, as their traits ask for it.
use Rattle.std.proofs.Common.{◌≡◌, suc, Bool, true, List, [], ◌∷◌, map, length, refl, ap, ◌∙◌, arith, Option, None, Some}
use Rattle.arrow_types.specs.TypeData.{TypeData}
use Rattle.arrow_flat.specs.Slots.{Slot, is_valid}
use Rattle.arrow_flat.specs.Built.{Built, Starts}
use Rattle.arrow_push.specs.Flat.{TypedValues, built_of}
use Rattle.arrow_push.specs.Masks.{with_nulls, count_or, all_filled, built_under}
use Rattle.arrow_push.specs.Nulls.{AreValid}

module _ {A : Type 0} (f : A → Slot) where
  pub flat_valid : ((x : A) → is_valid (f x) ≡ true) → (xs : List A) → AreValid (map f xs)
  flat_valid h [] = tt
  flat_valid h (x ∷ xs) = (h x, flat_valid h xs)

  pub flat_starts : (b : TypedValues A) → Starts (built_of f b)
  flat_starts b = record {
    none_refused = refl;
    none_lands = refl;
    none_cut = λ h. record { same_landing = λ ys. refl; same_refusal = λ ys. refl };
  }

-- slots under a mask that has their length
pub under_length : (m : Option (List Bool)) (xs : List Slot) → count_or m (length xs) ≡ length xs → length (with_nulls m xs) ≡ length xs
under_length None xs e = refl
under_length (Some bs) xs e = zip_length bs xs e
  where
    zip_length : (bs : List Bool) (xs : List Slot) → length bs ≡ length xs → length (with_nulls (Some bs) xs) ≡ length xs
    zip_length [] [] e = refl
    zip_length [] (x ∷ xs) e = absurd (omega arith)
    zip_length (b ∷ bs) [] e = refl
    zip_length (b ∷ bs) (x ∷ xs) e = ap suc (zip_length bs xs (omega arith))

pub masked_starts : (blank : TypeData → Slot) (v : Built) (m : Option (List Bool)) → Starts v → count_or m (length v.slots) ≡ length v.slots
    → Starts (built_under blank v m)
masked_starts blank v m s fits = record {
  none_refused = s.none_refused;
  none_lands = refl;
  none_cut = λ h. record {
    same_landing = λ ys. refl;
    same_refusal = λ ys.
        ap (λ k. (v.after_cut k).refusal (all_filled (blank v.dtype) ys)) (under_length m v.slots fits)
        ∙ (s.none_cut h).same_refusal (all_filled (blank v.dtype) ys);
  };
}
