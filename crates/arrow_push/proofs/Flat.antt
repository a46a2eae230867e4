-- What calls do to builders of values that stand for one slot each.
use Rattle.std.proofs.Common.{◌≡◌, ℕ, List, ◌++◌, map, take, refl, ap, sym, ◌∙◌}
use Rattle.std.specs.List.{take-map}
use Rattle.std.proofs.lemmas.List.{map-append}
use Rattle.arrow_types.specs.Seen.{seen}
use Rattle.arrow_flat.specs.Slots.{Slot}
use Rattle.arrow_flat.specs.Built.{CutsAlike, Takes, IsUnchanged, IsCutTo}
use Rattle.arrow_push.specs.Flat.{TypedValues, built_of}

module _ {A : Type 0} (f : A → Slot) where
  -- nothing is ever refused, so that all cuts are alike
  alike : (b c : TypedValues A) → CutsAlike (built_of f b) (built_of f c)
  alike b c = record {
    still_settled = refl;
    cuts = λ n l. record { same_landing = λ ys. refl; same_refusal = λ ys. refl };
  }

  pub flat_takes : (b c : TypedValues A) (ys : List A) → c.dtype ≡ b.dtype → c.values ≡ b.values ++ ys → Takes (built_of f b) (built_of f c) (map f ys)
  flat_takes b c ys k e = record {
    held = record {
      slots_are = ap (map f) e ∙ map-append f b.values ys;
      same_type = ap seen k;
      still_whole = refl;
      undone = λ h. alike b c;
    };
    accepted = refl;
    even = refl;
    later_refusal = λ ws. refl;
    later_landing = λ ws. refl;
  }

  pub flat_unchanged : (b c : TypedValues A) → c.dtype ≡ b.dtype → c.values ≡ b.values → IsUnchanged (built_of f b) (built_of f c)
  flat_unchanged b c k e = record {
    kept = record { same_slots = ap (map f) e; same_type = ap seen k; still_whole = refl };
    later = λ h. record { same_landing = λ ys. refl; same_refusal = λ ys. refl };
    undone = λ h. alike b c;
  }

  pub flat_cut : (b c : TypedValues A) (n : ℕ) → c.dtype ≡ b.dtype → c.values ≡ take n b.values → IsCutTo n (built_of f b) (built_of f c)
  flat_cut b c n k e = record {
    slots_are = ap (map f) e ∙ sym (take-map f n b.values);
    same_type = ap seen k;
    still_whole = λ h. refl;
    still_settled = λ h. refl;
    later = record { same_landing = λ ys. refl; same_refusal = λ ys. refl };
    cuts = λ j l. record { same_landing = λ ys. refl; same_refusal = λ ys. refl };
  }
