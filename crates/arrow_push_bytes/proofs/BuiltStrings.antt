-- What calls do to builders of binary values and of strings.
use Rattle.std.proofs.Common.{◌≡◌, ℕ, ◌≤◌, zero, suc, true, List, [], ◌∷◌, ◌++◌, map, length, take, refl, ap, sym, ◌∙◌, arith, Option, None}
use Rattle.std.specs.List.{take-map}
use Rattle.std.proofs.lemmas.List.{length-map, map-append, take-append-le}
use Rattle.arrow_types.specs.TypeData.{TypeData}
use Rattle.arrow_types.specs.declared.error.PolarsError.{PolarsError}
use Rattle.arrow_flat.specs.Slots.{Slot, bytes}
use Rattle.arrow_flat.specs.Built.{CutsAlike, Takes, IsUnchanged, IsCutTo}
use Rattle.arrow_push_bytes.specs.BuiltStrings.{built_strings}

take_fewer : {A : Type 0} (k n : ℕ) (xs : List A) → k ≤ n → take k (take n xs) ≡ take k xs
take_fewer zero n xs h = refl
take_fewer (suc k) zero xs h = absurd (omega arith)
take_fewer (suc k) (suc n) [] h = refl
take_fewer (suc k) (suc n) (x ∷ xs) h = ap (λ ys. x ∷ ys) (take_fewer k n xs (omega arith))

module _ (R : List (List ℕ) → List Slot → Option PolarsError) where
  alike : (t u : TypeData) (xs ys more : List (List ℕ)) → more ≡ xs ++ ys → CutsAlike (built_strings R t xs) (built_strings R u more)
  alike t u xs ys more e = record {
    still_settled = refl;
    cuts = λ n h.
        let l : n ≤ length xs = omega (arith, length-map xs bytes) in
        record {
          same_landing = λ zs. refl;
          same_refusal = λ zs. ap (λ ws. R ws zs) (ap (take n) e ∙ take-append-le n xs ys l);
        };
  }

  pub strings_take : (t u : TypeData) (xs ys more : List (List ℕ)) → u ≡ t → more ≡ xs ++ ys → R xs (map bytes ys) ≡ None
      → ((zs : List Slot) → R (xs ++ ys) zs ≡ R xs (map bytes ys ++ zs))
      → Takes (built_strings R t xs) (built_strings R u more) (map bytes ys)
  strings_take t u xs ys more k e none later = record {
    held = record {
      slots_are = ap (map bytes) e ∙ map-append bytes xs ys;
      same_type = k;
      still_whole = refl;
      undone = λ h. alike t u xs ys more e;
    };
    accepted = none;
    even = refl;
    later_refusal = λ zs. ap (λ ws. R ws zs) e ∙ later zs;
    later_landing = λ zs. refl;
  }

  pub strings_keep : (t u : TypeData) (xs ys : List (List ℕ)) → u ≡ t → ys ≡ xs → IsUnchanged (built_strings R t xs) (built_strings R u ys)
  strings_keep t u xs ys k e = record {
    kept = record { same_slots = ap (map bytes) e; same_type = k; still_whole = refl };
    later = λ h. record { same_landing = λ zs. refl; same_refusal = λ zs. ap (λ ws. R ws zs) e };
    undone = λ h. record {
      still_settled = refl;
      cuts = λ n l. record { same_landing = λ zs. refl; same_refusal = λ zs. ap (λ ws. R (take n ws) zs) e };
    };
  }

  pub strings_cut : (t u : TypeData) (xs ys : List (List ℕ)) (n : ℕ) → u ≡ t → ys ≡ take n xs → IsCutTo n (built_strings R t xs) (built_strings R u ys)
  strings_cut t u xs ys n k e = record {
    slots_are = ap (map bytes) e ∙ sym (take-map bytes n xs);
    same_type = k;
    still_whole = λ h. refl;
    still_settled = λ h. refl;
    later = record { same_landing = λ zs. refl; same_refusal = λ zs. ap (λ ws. R ws zs) e };
    cuts = λ j l. record {
      same_landing = λ zs. refl;
      same_refusal = λ zs. ap (λ ws. R ws zs) (ap (take j) e ∙ take_fewer j n xs l);
    };
  }
