-- What each canonical layout asks for: its type, its mask and its count; and its offsets.
use Rattle.std.proofs.Common.{Bool, List, None, Some, [], arith, cond, false, flat_map, length, length-append, map, pos, true, ℕ, ◌*◌, ◌+◌, ◌<◌, ◌^◌, ◌∙◌, ◌∷◌, ◌≡◌, ◌≤◌}
use Rattle.std.proofs.lemmas.List.{length-map}
use Rattle.std.specs.List.{AllByRecursion, list_all}
use Rattle.arrow_types.specs.Carried.{IsBelow, IsCarried}
use Rattle.arrow_types.specs.TypeData.{TypeData}
use Rattle.arrow_buffers.specs.Bits.{plain}
use Rattle.arrow_flat.specs.Slots.{Slot, is_valid}
use Rattle.arrow_layout.specs.Canon.{sums_from, mask_of, offsets}
use Rattle.arrow_layout.specs.Forms.{Form, form_of, large_by, offset_limit}
use Rattle.arrow_layout.specs.WellFormed.{AreOffsetsWithin, AscendTo, IsColumnOf, MaskFits}
use Rattle.arrow_layout.proofs.Pieces.{to_nat-pos}

mask_by : (s : List Slot) (n : ℕ) (b : Bool) → length s ≡ n → MaskFits (cond b None (Some (plain (map is_valid s)))) n
mask_by s n true l = tt
mask_by s n false l = (length-map s is_valid ∙ l, omega arith)

pub mask_fits : (s : List Slot) (n : ℕ) → length s ≡ n → MaskFits (mask_of s) n
mask_fits s n l = mask_by s n (list_all is_valid s) l

pub column_canon : (t : TypeData) (f : Form) (s : List Slot) (n : ℕ) → form_of t ≡ f → IsCarried t → length s ≡ n → n < 2 ^ 64 → IsColumnOf t f (mask_of s) n
column_canon t f s n e c l h = record { carried = c; of_form = e; mask = mask_fits s n l; count = h }

pub column_bare : (t : TypeData) (f : Form) (n : ℕ) → form_of t ≡ f → IsCarried t → n < 2 ^ 64 → IsColumnOf t f None n
column_bare t f n e c h = record { carried = c; of_form = e; mask = tt; count = h }

ends_ascend : {A B : Type 0} (g : B → List A) (s : List B) (a top : ℕ) → a + length (flat_map g s) ≤ top → AscendTo top a (sums_from a (map (λ x. length (g x)) s))
ends_ascend g [] a top h = omega arith
ends_ascend g (x ∷ s) a top h = (omega arith, ends_ascend g s (a + length (g x)) top (omega (arith, length-append (g x) (flat_map g s))))

pub offsets_are : {A B : Type 0} (g : B → List A) (s : List B) (limit top : ℕ) → length (flat_map g s) ≡ top → AllByRecursion (IsBelow limit) (offsets (map (λ x. length (g x)) s)) → AreOffsetsWithin limit top (offsets (map (λ x. length (g x)) s))
offsets_are g s limit top e h = record {
  in_range = h;
  ascend = rw (to_nat-pos (sums_from 0 (map (λ x. length (g x)) s))) (ends_ascend g s 0 top (omega arith));
}

joined_after : {A B : Type 0} (g : B → List A) (s : List B) (a limit : ℕ) → a < limit → AllByRecursion (IsBelow limit) (map pos (sums_from a (map (λ x. length (g x)) s))) → a + length (flat_map g s) < limit
joined_after g [] a limit h k = omega arith
joined_after g (x ∷ s) a limit h k = omega (arith, length-append (g x) (flat_map g s), joined_after g s (a + length (g x)) limit k.0 k.1)

-- what is joined is below the limit of its offsets
pub joined_below : {A B : Type 0} (g : B → List A) (s : List B) (limit : ℕ) → AllByRecursion (IsBelow limit) (offsets (map (λ x. length (g x)) s)) → length (flat_map g s) < limit
joined_below g s limit h = let below : 0 + length (flat_map g s) < limit = joined_after g s 0 limit h.0 h.1 in omega arith

pub limit_low : (f : Form) → offset_limit f < 2 ^ 64
limit_low f = by (large_by f) where
  by : (b : Bool) → cond b (2 ^ 63) (2 ^ 31) < 2 ^ 64
  by true = omega arith
  by false = omega arith

pub fixed_joined : {A B : Type 0} (k : ℕ) (g : B → List A) (s : List B) → AllByRecursion (λ x. length (g x) ≡ k) s → length (flat_map g s) ≡ length s * k
fixed_joined k g [] h = omega arith
fixed_joined k g (x ∷ s) h = grind (arith, length-append (g x) (flat_map g s), fixed_joined k g s h.1, h.0)
