-- What a builder of nulls keeps, as the trait of builders asks for it.
use Rattle.std.proofs.Common.{◌≡◌, ℕ, List, length, replicate, refl, ap}
use Rattle.std.proofs.lemmas.List.{length-replicate}
use Rattle.arrow_flat.specs.Built.{Starts}
use Rattle.arrow_flat.specs.Slots.{Slot, null}
use Rattle.arrow_nested.specs.Nulls.{Nulls, nulls_built, nulls_refusal}

length_nulls : (n : ℕ) → length (replicate n null) ≡ n
length_nulls n = length-replicate n null

same_refusal : (n k : ℕ) → n ≡ k → (ys : List Slot) → nulls_refusal n ys ≡ nulls_refusal k ys
same_refusal n k e ys = ap (λ i. nulls_refusal i ys) e

pub nulls_start : (b : Nulls) → Starts (nulls_built b)
nulls_start b = record {
  none_refused = refl;
  none_lands = refl;
  none_cut = λ h. record {
    same_landing = λ ys. refl;
    same_refusal = λ ys. same_refusal (length (replicate b.length null)) b.length (length_nulls b.length) ys;
  };
}
