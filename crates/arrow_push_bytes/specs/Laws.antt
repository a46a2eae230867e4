-- What builders of binary values and of strings keep, as their traits ask for it.
use Rattle.std.proofs.Common.{◌≡◌, ℕ, List, [], map, length, take, refl, ap, ◌∙◌, Option, None}
use Rattle.std.proofs.lemmas.List.{length-map, take_all}
use Rattle.std.proofs.Math.Nat.{le_refl}
use Rattle.arrow_types.specs.Seen.{seen}
use Rattle.arrow_types.specs.TypeData.{TypeData}
use Rattle.arrow_types.specs.declared.error.PolarsError.{PolarsError}
use Rattle.arrow_flat.specs.Slots.{Slot, bytes}
use Rattle.arrow_flat.specs.Built.{Starts}
use Rattle.arrow_push.specs.Laws.{flat_valid}
use Rattle.arrow_push.specs.Nulls.{AreValid}
use Rattle.arrow_push_bytes.specs.Strings.{total_of}
use Rattle.arrow_push_bytes.specs.BuiltStrings.{TypedStrings, built_strings}
use Rattle.arrow_push_bytes.specs.BuiltViews.{views_refusal, built_views}

-- no string is null
pub strings_valid : (xs : List (List ℕ)) → AreValid (map bytes xs)
strings_valid xs = flat_valid bytes (λ x. refl) xs

pub strings_start : (R : List (List ℕ) → List Slot → Option PolarsError) (t : TypeData) (xs : List (List ℕ)) → R xs [] ≡ None → Starts (built_strings R t xs)
strings_start R t xs none = record {
  none_refused = none;
  none_lands = refl;
  none_cut = λ h. record {
    same_landing = λ ys. refl;
    same_refusal = λ ys.
        ap (λ zs. R zs ys) (ap (λ n. take n xs) (length-map xs bytes) ∙ take_all (length xs) xs (le_refl (length xs)));
  };
}

pub views_start : (b : TypedStrings) → Starts (built_views b)
views_start b = strings_start (λ xs ys. views_refusal (total_of xs) ys) (seen b.dtype) b.strings refl
