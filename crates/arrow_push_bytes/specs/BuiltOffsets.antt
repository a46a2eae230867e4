-- What builders of binary values and of strings by offsets stand for.
use Rattle.std.specs.Prelude.{◌≡◌, ℕ, ℤ, ◌+◌, nat_le, Bool, true, false, if◌then◌else◌, List, [], ◌∷◌, map, length, Option, Some, None}
use Rattle.arrow_types.specs.Seen.{seen}
use Rattle.arrow_types.specs.TypeData.{TypeData}
use Rattle.arrow_types.specs.TypeData as T
use Rattle.arrow_types.specs.Types.{physical_of}
use Rattle.arrow_types.specs.declared.error.PolarsError.{PolarsError}
use Rattle.arrow_types.specs.declared.error.PolarsError.TheVariants.{ComputeError}
use Rattle.arrow_types.specs.declared.error.Reason.TheVariants.{LengthOverflow}
use Rattle.arrow_views.specs.ViewArrays.{AreTextsIf}
use Rattle.arrow_flat.specs.Slots.{Slot, bytes}
use Rattle.arrow_flat.specs.Built.{Built}
use Rattle.arrow_bytes.specs.Binaries.{Binaries, layout_in, slots}
use Rattle.arrow_flat.specs.Slots.{slot_or_null}
use Rattle.arrow_flat.specs.Natives.{octets}
use Rattle.arrow_layout.specs.Layouts.{Layout, binaries}
use Rattle.arrow_push.specs.Masks.{Finished}
use Rattle.arrow_push_bytes.specs.Strings.{total_of}
use Rattle.arrow_push_bytes.specs.BuiltStrings.{TypedStrings, built_strings}

-- What slots are refused with after values of n bytes together: the bytes of all would reach the limit of offsets.
abbrev pub bytes_refusal : ℕ → ℕ → List Slot → Option PolarsError
bytes_refusal limit n [] = None
bytes_refusal limit n (bytes b ∷ ys) =
    if nat_le limit (n + length b) then Some (ComputeError LengthOverflow) else bytes_refusal limit (n + length b) ys
bytes_refusal limit n (y ∷ ys) = bytes_refusal limit n ys

abbrev pub strings_refusal : ℕ → List (List ℕ) → List Slot → Option PolarsError
strings_refusal limit xs ys = bytes_refusal limit (total_of xs) ys

abbrev pub built_offsets : ℕ → TypedStrings → Built
built_offsets limit b = built_strings (strings_refusal limit) (seen b.dtype) b.strings

-- The array of such values: its type, its slots and its mask.
abbrev pub finished_offsets : {O : Type 0} → (O → ℤ) → Binaries O → Finished
finished_offsets number a = record {
  dtype = seen a.dtype;
  slots = map (slot_or_null bytes) (slots number a);
  validity = a.mask;
}

-- The layout of such an array.
abbrev pub offset_array_layout : {O : Type 0} → (O → ℤ) → Binaries O → Layout
offset_array_layout number a = binaries (seen a.dtype) a.mask (map number a.offsets) (octets a.values)

-- The plain type of strings or of binary values, by whether the offsets are large.
abbrev pub plain_offset_type : Bool → Bool → TypeData
plain_offset_type true true = T.large_utf8
plain_offset_type true false = T.utf8
plain_offset_type false true = T.large_binary
plain_offset_type false false = T.binary

-- What every such builder keeps: a type that is stored so, and UTF-8 where it has strings.
pub record AreOffsetStrings (text large : Bool) (b : TypedStrings) : Type 0 where
  pub stored : physical_of (seen b.dtype) ≡ Some (layout_in text large)
  pub texts : AreTextsIf text b.strings
