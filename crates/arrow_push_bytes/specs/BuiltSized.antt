-- What builders of binary values of one size stand for.
use Rattle.std.specs.Prelude.{◌≡◌, ℕ, ◌/◌, ◌%◌, ◌<◌, nat_eq, if◌then◌else◌, List, [], ◌∷◌, map, length, replicate, Option, Some, None}
use Rattle.arrow_types.specs.Seen.{seen}
use Rattle.arrow_types.specs.TypeData.{TypeData}
use Rattle.arrow_types.specs.declared.datatype.ArrowDataType.{ArrowDataType}
use Rattle.arrow_types.specs.declared.error.PolarsError.{PolarsError}
use Rattle.arrow_types.specs.declared.error.PolarsError.TheVariants.{ComputeError}
use Rattle.arrow_types.specs.declared.error.Reason.TheVariants.{WrongWidth}
use Rattle.arrow_flat.specs.Pieces.{chunks}
use Rattle.arrow_flat.specs.Slots.{Slot, bytes}
use Rattle.arrow_flat.specs.Built.{Built}
use Rattle.arrow_bytes.specs.FixedSizeBinaries.{FixedSizeBinaries, declared_size, size_or_zero, slot_count, slots}
use Rattle.arrow_flat.specs.Slots.{slot_or_null}
use Rattle.arrow_flat.specs.Natives.{octets, AreBytes}
use Rattle.arrow_layout.specs.Layouts.{Layout, fixed_size_binaries}
use Rattle.arrow_push.specs.Masks.{Finished}
use Rattle.arrow_push_bytes.specs.BuiltStrings.{built_strings}

-- What a contract sees of a builder of binary values of one size: the type, the size, and the bytes
-- of the values one after another.
pub record SizedBytes : Type 0 where
  pub dtype : ArrowDataType
  pub size : ℕ
  pub bytes : List ℕ

-- What every such builder keeps: its type declares the size, which isn't 0 and divides the count of
-- bytes, and each byte is below 256.
pub record AreSized (b : SizedBytes) : Type 0 where
  pub sized : declared_size (seen b.dtype) ≡ Some b.size
  pub positive : 0 < b.size
  pub multiple : length b.bytes % b.size ≡ 0
  pub small : AreBytes b.bytes

-- The values of k bytes each, one after another.
abbrev pub sized_strings : ℕ → List ℕ → List (List ℕ)
sized_strings k bs = chunks k (length bs / k) bs

-- What slots are refused with: the first value that has not k bytes.
abbrev pub width_refusal : ℕ → List Slot → Option PolarsError
width_refusal k [] = None
width_refusal k (bytes b ∷ ys) = if nat_eq (length b) k then width_refusal k ys else Some (ComputeError WrongWidth)
width_refusal k (y ∷ ys) = width_refusal k ys

abbrev pub built_sized : ℕ → TypeData → List ℕ → Built
built_sized k t bs = built_strings (λ xs ys. width_refusal k ys) t (sized_strings k bs)

-- As many zeros as the type says.
abbrev pub zeros_of : TypeData → Slot
zeros_of t = bytes (replicate (size_or_zero t) 0)

-- The array of such values: its type, its slots and its mask.
abbrev pub finished_sized : FixedSizeBinaries → Finished
finished_sized a = record {
  dtype = seen a.dtype;
  slots = map (slot_or_null bytes) (slots a);
  validity = a.mask;
}

-- The layout of such an array.
abbrev pub sized_array_layout : FixedSizeBinaries → Layout
sized_array_layout a = fixed_size_binaries (seen a.dtype) a.mask a.size (slot_count a) (octets a.values)
