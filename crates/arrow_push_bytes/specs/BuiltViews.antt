-- What builders of binary values and of strings by views stand for.
use Rattle.std.specs.Prelude.{◌≡◌, ℕ, ◌+◌, ◌^◌, ◌≤◌, nat_le, Bool, ◌&&◌, if◌then◌else◌, List, [], ◌∷◌, map, length, Option, Some, None}
use Rattle.std.specs.List.{AllByRecursion}
use Rattle.arrow_types.specs.TypeData.{TypeData}
use Rattle.arrow_types.specs.TypeData as T
use Rattle.arrow_types.specs.Seen.{seen}
use Rattle.arrow_types.specs.Types.{physical_of}
use Rattle.arrow_types.specs.declared.error.PolarsError.{PolarsError}
use Rattle.arrow_types.specs.declared.error.PolarsError.TheVariants.{ComputeError}
use Rattle.arrow_types.specs.declared.error.Reason.TheVariants.{LengthOverflow}
use Rattle.arrow_flat.specs.Natives.{AreBytes}
use Rattle.arrow_flat.specs.Packs.{view_limit}
use Rattle.arrow_flat.specs.Slots.{Slot, bytes}
use Rattle.arrow_flat.specs.Built.{Built}
use Rattle.arrow_views.specs.ViewArrays.{ViewArray, AreTextsIf, physical_view, slots}
use Rattle.arrow_flat.specs.Slots.{slot_or_null}
use Rattle.arrow_layout.specs.Layouts.{Layout, views}
use Rattle.arrow_push.specs.Masks.{Finished}
use Rattle.arrow_push_bytes.specs.Strings.{total_of}
use Rattle.arrow_push_bytes.specs.BuiltStrings.{TypedStrings, built_strings}

-- The most bytes that the values have together.
abbrev pub most_bytes : ℕ
most_bytes = 2 ^ 62

-- A value of k bytes may follow values of n bytes.
abbrev pub has_room : ℕ → ℕ → Bool
has_room n k = nat_le k view_limit && nat_le (n + k) most_bytes

-- After values of n bytes the first value that has no room is refused.
abbrev pub views_refusal : ℕ → List Slot → Option PolarsError
views_refusal n [] = None
views_refusal n (bytes b ∷ ys) =
    if has_room n (length b) then views_refusal (n + length b) ys else Some (ComputeError LengthOverflow)
views_refusal n (y ∷ ys) = views_refusal n ys

abbrev pub built_views : TypedStrings → Built
built_views b = built_strings (λ xs ys. views_refusal (total_of xs) ys) (seen b.dtype) b.strings

-- The array of such values: its type, its slots and its mask.
abbrev pub finished_views : ViewArray → Finished
finished_views a = record {
  dtype = seen a.dtype;
  slots = map (slot_or_null bytes) (slots a);
  validity = a.mask;
}

-- The layout of such an array.
abbrev pub view_array_layout : ViewArray → Layout
view_array_layout a = views (seen a.dtype) a.mask a.views a.buffers

-- The type of values by views, with no meaning beside their bytes.
abbrev pub plain_view_type : Bool → TypeData
plain_view_type text = if text then T.utf8_view else T.binary_view

-- A value that a buffer can hold.
abbrev pub IsPacked : List ℕ → Type 0
IsPacked v = length v ≤ view_limit

-- What values keep that an array of views can hold.
pub record ArePacked (text : Bool) (xs : List (List ℕ)) : Type 0 where
  pub small : AllByRecursion AreBytes xs
  pub fit : AllByRecursion IsPacked xs
  pub few : total_of xs ≤ most_bytes
  pub texts : AreTextsIf text xs

-- What every such builder keeps.
pub record AreViewStrings (text : Bool) (b : TypedStrings) : Type 0 where
  pub stored : physical_of (seen b.dtype) ≡ Some (physical_view text)
  pub packed : ArePacked text b.strings
