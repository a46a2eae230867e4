-- Windows of views.
use Rattle.std.proofs.Common.{◌≡◌, ℕ, zero, suc, ◌+◌, ◌≤◌, Option, Bool, true, false, List, [], ◌∷◌, length, take, drop, ap, sym, ◌∙◌, subst, Some}
use Rattle.std.specs.List.{AllByRecursion}
use Rattle.std.specs.Prelude.{IsUtf8}
use Rattle.std.proofs.lemmas.List.{length-map, take-map, drop-map}
use Rattle.arrow_flat.specs.Pieces.{AreTexts, AreTextsIf}
use Rattle.arrow_buffers.specs.Bits.{Bits}
use Rattle.arrow_buffers.proofs.Windows.{window_length}
use Rattle.arrow_types.specs.declared.datatype.ArrowDataType.{ArrowDataType}
use Rattle.arrow_types.specs.Carried.{IsCarried}
use Rattle.arrow_types.specs.Seen.{seen}
use Rattle.arrow_types.specs.declared.datatype.PhysicalType.{PhysicalType}
use Rattle.arrow_flat.specs.Natives.{IsStoredFlat}
use Rattle.arrow_flat.specs.Primitives.{MaskHasLength, IsLed, cut_mask}
use Rattle.arrow_flat.specs.Views.{View, IsView, view_bytes}
use Rattle.arrow_flat.proofs.Masked.{slots_length, cut_fits}
use Rattle.arrow_views.specs.ViewArrays.{ViewArray, IsViewArray, IsSound, physical_view, values_in, values_of, slots}

module _ {A : Type 0} (P : A → Type 0) where
  all_take : (n : ℕ) (xs : List A) → AllByRecursion P xs → AllByRecursion P (take n xs)
  all_take zero xs h = tt
  all_take (suc n) [] h = tt
  all_take (suc n) (x ∷ xs) h = (h.0, all_take n xs h.1)

  all_drop : (n : ℕ) (xs : List A) → AllByRecursion P xs → AllByRecursion P (drop n xs)
  all_drop zero xs h = h
  all_drop (suc n) [] h = tt
  all_drop (suc n) (x ∷ xs) h = all_drop n xs h.1

  pub part_all : (o n : ℕ) (xs : List A) → AllByRecursion P xs → AllByRecursion P (take n (drop o xs))
  part_all o n xs h = all_take n (drop o xs) (all_drop o xs h)

pub part_values : (buffers : List (List ℕ)) (o n : ℕ) (vs : List View) → take n (drop o (values_in buffers vs)) ≡ values_in buffers (take n (drop o vs))
part_values buffers o n vs = ap (take n) (drop-map (view_bytes buffers) o vs) ∙ take-map (view_bytes buffers) n (drop o vs)

pub texts_part : (text : Bool) (buffers : List (List ℕ)) (o n : ℕ) (vs : List View) → AreTextsIf text (values_in buffers vs) → AreTextsIf text (values_in buffers (take n (drop o vs)))
texts_part true buffers o n vs h = subst AreTexts (part_values buffers o n vs) (part_all IsUtf8 o n (values_in buffers vs) h)
texts_part false buffers o n vs h = tt

-- ---- the slots of an array
pub values_count : (a : ViewArray) → length (values_of a) ≡ length a.views
values_count a = length-map a.views (view_bytes a.buffers)

pub values_fit : (a : ViewArray) → MaskHasLength a.mask (length a.views) → MaskHasLength a.mask (length (values_of a))
values_fit a h = subst (MaskHasLength a.mask) (sym (values_count a)) h

pub slots_count : (a : ViewArray) → MaskHasLength a.mask (length a.views) → length (slots a) ≡ length a.views
slots_count a h = slots_length a.mask (values_of a) (values_fit a h) ∙ values_count a

-- ---- the array of a window
pub sound_window : (text : Bool) (t : ArrowDataType) (m m' : Option Bits) (vs vs' : List View) (buffers : List (List ℕ)) (o n : ℕ) → IsViewArray text t m vs buffers → o + n ≤ length vs
    → m' ≡ cut_mask o n m → vs' ≡ take n (drop o vs) → IsViewArray text t m' vs' buffers
sound_window text t m m' vs vs' buffers o n h range is views =
    subst (λ m. IsViewArray text t m vs' buffers) (sym is) (subst (λ vs. IsViewArray text t (cut_mask o n m) vs buffers) (sym views) record {
      laid = record {
        fits = subst (MaskHasLength (cut_mask o n m)) (window_length vs o n range) (cut_fits m (length vs) o n h.laid.fits range);
        stored = h.laid.stored;
      };
      placed = part_all (IsView buffers) o n vs h.placed;
      texts = texts_part text buffers o n vs h.texts;
    })

-- ---- what an array keeps, with what its parts keep
pub stored_flat : (text : Bool) (p : Option PhysicalType) → p ≡ Some (physical_view text) → IsStoredFlat p
stored_flat true p e = subst IsStoredFlat (sym e) tt
stored_flat false p e = subst IsStoredFlat (sym e) tt

pub sound_parts : (text : Bool) (t : ArrowDataType) (m : Option Bits) (vs : List View) (buffers : List (List ℕ)) → IsViewArray text t m vs buffers → IsLed m → IsCarried (seen t) → IsSound text t m vs buffers
sound_parts text t m vs buffers h led carried = record {
  array = record { fits = h.laid.fits; led = led; stored = h.laid.stored; carried = carried };
  placed = h.placed;
  texts = h.texts;
}
