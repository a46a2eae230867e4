-- Parts of views that are refused are not well formed.
use Rattle.std.proofs.Common.{◌≡◌, ℕ, List, [], ◌∷◌, length, ap, refl, subst, Option, Some, None}
use Rattle.std.specs.Prelude.{Bool, true, false}
use Rattle.std.specs.List.{AllByRecursion}
use Rattle.arrow_buffers.specs.Bits.{Bits}
use Rattle.arrow_types.specs.Seen.{seen}
use Rattle.arrow_types.specs.Types.{physical_of}
use Rattle.arrow_types.specs.declared.datatype.ArrowDataType.{ArrowDataType}
use Rattle.arrow_types.specs.declared.error.PolarsError.{PolarsError}
use Rattle.arrow_types.specs.declared.error.PolarsError.TheVariants.{ComputeError, InvalidOperation, Unsupported, OutOfMemory}
use Rattle.arrow_types.specs.declared.error.Reason.TheVariants.{MaskLength, WrongLogicalType, ViewRange, NotUtf8}
use Rattle.arrow_flat.specs.Primitives.{MaskHasLength as MaskCovers}
use Rattle.arrow_flat.specs.Pieces.{AreTexts}
use Rattle.arrow_flat.specs.Views.{View}
use Rattle.arrow_views.specs.ViewArrays.{physical_view, AreTextsIf, values_in, Refused, RefusedIn}
use Rattle.arrow_layout.specs.Forms.{form_of, text_by}
use Rattle.arrow_layout.specs.Layouts.{views}
use Rattle.arrow_layout.specs.SlotsOf.{IsTextIf}
use Rattle.arrow_layout.specs.WellFormed.{MaskFits, WellFormed}
use Rattle.arrow_meaning.proofs.FlatLayouts.{view_form}

covers : (m : Option Bits) (n : ℕ) → MaskFits m n → MaskCovers m n
covers None n h = tt
covers (Some b) n h = h.0

texts : (text : Bool) (xs : List (List ℕ)) → AllByRecursion (IsTextIf text) xs → AreTextsIf text xs
texts false xs h = tt
texts true xs h = by xs h
  where
    by : (xs : List (List ℕ)) → AllByRecursion (IsTextIf true) xs → AreTexts xs
    by [] h = tt
    by (x ∷ xs) h = (h.0, by xs h.1)

pub bad_views : (e : PolarsError) (text : Bool) (t : ArrowDataType) (m : Option Bits) (vs : List View) (buffers : List (List ℕ)) → physical_of (seen t) ≡ Some (physical_view text) → Refused e text t m vs buffers
    → WellFormed (views (seen t) m vs buffers) → ⊥
bad_views (ComputeError MaskLength) text t m vs buffers stored h w = h (covers m (length vs) w.0.mask)
bad_views (ComputeError WrongLogicalType) text t m vs buffers stored h w = h.1 stored
bad_views (ComputeError ViewRange) text t m vs buffers stored h w = h.2 w.1
bad_views (ComputeError NotUtf8) text t m vs buffers stored h w =
    let same : text_by (form_of (seen t)) ≡ text = ap text_by (view_form text (seen t) stored) in
    h.3 (texts text (values_in buffers vs) (subst (λ x. AllByRecursion (IsTextIf x) (values_in buffers vs)) same w.3))
bad_views (ComputeError _) text t m vs buffers stored h w = h
bad_views _ text t m vs buffers stored h w = h

-- the same where memory might have run out
pub bad_views_in : (e : PolarsError) (text : Bool) (t : ArrowDataType) (m : Option Bits) (vs : List View) (buffers : List (List ℕ)) → (e ≡ OutOfMemory → ⊥) → physical_of (seen t) ≡ Some (physical_view text)
    → RefusedIn e text t m vs buffers → WellFormed (views (seen t) m vs buffers) → ⊥
bad_views_in OutOfMemory text t m vs buffers other stored h w = other refl
bad_views_in (ComputeError reason) text t m vs buffers other stored h w = bad_views (ComputeError reason) text t m vs buffers stored h w
bad_views_in (InvalidOperation reason) text t m vs buffers other stored h w = bad_views (InvalidOperation reason) text t m vs buffers stored h w
bad_views_in Unsupported text t m vs buffers other stored h w = bad_views Unsupported text t m vs buffers stored h w
