-- The array of packed values has these values.
use Rattle.std.proofs.Common.{◌≡◌, ℕ, ◌+◌, ◌≤◌, Bool, true, false, cond, List, [], ◌∷◌, ◌++◌, length, map, sum, refl, ap, ap₂, sym, subst, ◌∙◌, arith, Option}
use Rattle.std.specs.Prelude.{Result, Ok, Err, IfOk}
use Rattle.std.specs.List.{AllByRecursion}
use Rattle.arrow_buffers.specs.Bits.{Bits}
use Rattle.arrow_types.specs.Seen.{seen}
use Rattle.arrow_types.specs.declared.datatype.ArrowDataType.{ArrowDataType}
use Rattle.arrow_flat.specs.Natives.{AreBytes}
use Rattle.arrow_flat.specs.Packs.{view_limit, pack, packed_views}
use Rattle.arrow_flat.specs.Primitives.{masked_values}
use Rattle.arrow_flat.specs.Slots.{bytes, slot_or_null}
use Rattle.arrow_flat.specs.Views.{View, is_short, longs}
use Rattle.arrow_flat.proofs.PackedReads.{packed_reads}
use Rattle.arrow_flat.proofs.PackedViews.{packed_well, length-views, total as packed_total, sum-total}
use Rattle.arrow_views.specs.ViewArrays.{ViewArray, AreViews, AreTextsIf, values_in, values_of}
use Rattle.arrow_push.specs.Arrays.{HoldsValues}
use Rattle.arrow_push.specs.Masks.{with_nulls, bits_of_mask}
use Rattle.arrow_push.proofs.Finished.{shown, shown_parts}
use Rattle.arrow_push_bytes.specs.Strings.{total_of}
use Rattle.arrow_push_bytes.specs.BuiltStrings.{TypedStrings}
use Rattle.arrow_push_bytes.specs.BuiltViews.{built_views, finished_views, view_array_layout, most_bytes, IsPacked}

same_total : (vs : List (List ℕ)) → packed_total vs ≡ total_of vs
same_total [] = refl
same_total (v ∷ vs) = ap (λ n. length v + n) (same_total vs)

pub summed_total : (vs : List (List ℕ)) → sum (map length vs) ≡ total_of vs
summed_total vs = sum-total vs ∙ same_total vs

longs_all : (P : List ℕ → Type 0) (vs : List (List ℕ)) → AllByRecursion P vs → AllByRecursion P (longs vs)
longs_all P [] h = tt
longs_all P (v ∷ vs) h = by (is_short v) (longs_all P vs h.1)
  where
    by : (s : Bool) → AllByRecursion P (longs vs) → AllByRecursion P (cond s [] (v ∷ []) ++ longs vs)
    by true k = k
    by false k = (h.0, k)

module _ (vs : List (List ℕ)) (us : List View) (buffers : List (List ℕ)) (viewed : us ≡ packed_views view_limit vs) (packed : buffers ≡ pack view_limit (longs vs)) where
  pub views_count : length us ≡ length vs
  views_count = ap (λ (ws : List View). length ws) viewed ∙ length-views view_limit vs 0 0

  pub views_read : AllByRecursion IsPacked vs → values_in buffers us ≡ vs
  views_read h =
      ap (λ bs. values_in bs us) packed ∙ ap (values_in (pack view_limit (longs vs))) viewed ∙ packed_reads view_limit vs (longs_all IsPacked vs h)

  pub views_placed : AllByRecursion IsPacked vs → AllByRecursion AreBytes vs → total_of vs ≤ most_bytes → AreViews buffers us
  views_placed h k few =
      subst (λ bs. AreViews bs us) (sym packed)
      (subst (AreViews (pack view_limit (longs vs))) (sym viewed)
      (packed_well view_limit (omega arith) (omega arith) vs h (longs_all IsPacked vs h) k (omega (arith, same_total vs, few))))

  pub views_texts : (text : Bool) → AllByRecursion IsPacked vs → AreTextsIf text vs → AreTextsIf text (values_in buffers us)
  views_texts text h k = subst (AreTextsIf text) (sym (views_read h)) k

-- the finished array has the values and the mask
pub shown_result : {E : Type 0} (r : Result ViewArray E) (t u : ArrowDataType) (m : Option Bits) (xs ys : List (List ℕ)) → t ≡ u → xs ≡ ys
    → IfOk r (λ a. a.dtype ≡ t) → IfOk r (λ a. values_of a ≡ xs) → IfOk r (λ a. a.mask ≡ m)
    → IfOk r (λ a. finished_views a ≡ shown (seen u) (with_nulls (bits_of_mask m) (map bytes ys)) m)
shown_result (Ok a) t u m xs ys k e h l n =
    ap₂ (λ d zs. shown (seen d) (map (slot_or_null bytes) (masked_values a.mask zs)) a.mask) h l
    ∙ ap (λ b. shown (seen t) (map (slot_or_null bytes) (masked_values b xs)) b) n
    ∙ shown_parts bytes t u m xs ys k e
shown_result (Err e) t u m xs ys k q h l n = tt

-- and so does its layout
pub held_result : {E : Type 0} (r : Result ViewArray E) (b : TypedStrings) (t : ArrowDataType) (m : Option Bits) (xs : List (List ℕ)) → t ≡ b.dtype → xs ≡ b.strings
    → IfOk r (λ a. a.dtype ≡ t) → IfOk r (λ a. values_of a ≡ xs) → IfOk r (λ a. a.mask ≡ m)
    → IfOk r (λ a. HoldsValues m (built_views b) (view_array_layout a))
held_result (Ok a) b t m xs k e h l n = record {
  same_type = ap seen (h ∙ k);
  values_are = ap (map bytes) (l ∙ e);
  mask_is = n;
}
held_result (Err e) b t m xs k q h l n = tt
