-- What a contract sees of an array of binary values or strings, given the number of an offset.
use Rattle.std.specs.Prelude.{◌≡◌, ℕ, pred, suc, ◌≤◌, ℤ, Bool, true, false, List, length, map, take, drop, Option, Some}
use Rattle.arrow_buffers.specs.Bits.{Bits}
use Rattle.arrow_buffers.specs.Offsets.{to_nat, end_of}
use Rattle.arrow_types.specs.Seen.{seen}
use Rattle.arrow_types.specs.Types.{physical_of}
use Rattle.arrow_types.specs.declared.datatype.ArrowDataType.{ArrowDataType}
use Rattle.arrow_types.specs.declared.datatype.PhysicalType.{PhysicalType}
use Rattle.arrow_types.specs.declared.datatype.PhysicalType.TheVariants as physical
use Rattle.arrow_types.specs.declared.error.PolarsError.{PolarsError}
use Rattle.arrow_types.specs.declared.error.PolarsError.TheVariants.{ComputeError}
use Rattle.arrow_types.specs.declared.error.Reason.{Reason}
use Rattle.arrow_types.specs.declared.error.Reason.TheVariants.{OffsetPastValues, NotUtf8}
use Rattle.arrow_flat.specs.Pieces.{pieces}
pub use Rattle.arrow_flat.specs.Pieces.{AreTextsIf}
use Rattle.arrow_flat.specs.Primitives.{IsLaidOut, IsArray, MaskHasLength, cut_mask, masked_values}
use Rattle.arrow_flat.specs.Refusals as flat

-- the type, the offsets, the bytes of all slots, and the mask
pub record Binaries (O : Type 0) : Type 0 where
  pub dtype : ArrowDataType
  pub offsets : List O
  pub values : List ℕ
  pub mask : Option Bits

-- The physical type of strings or of binary values, by whether the offsets are large.
abbrev pub layout_in : Bool → Bool → PhysicalType
layout_in true true = physical.LargeUtf8
layout_in true false = physical.Utf8
layout_in false true = physical.LargeBinary
layout_in false false = physical.Binary

module _ {O : Type 0} where
  -- How many slots there are: one for each offset but the last.
  abbrev pub slot_count : Binaries O → ℕ
  slot_count a = pred (length a.offsets)

  -- The array of n slots from `offset` on, of the same bytes.
  abbrev pub cut : Binaries O → ℕ → ℕ → Binaries O
  cut a offset n = record {
    dtype = a.dtype;
    offsets = take (suc n) (drop offset a.offsets);
    values = a.values;
    mask = cut_mask offset n a.mask;
  }

  -- The array with another mask, or none.
  abbrev pub with_mask : Option Bits → Binaries O → Binaries O
  with_mask m a = record { dtype = a.dtype; offsets = a.offsets; values = a.values; mask = m }

  module _ (number : O → ℤ) where
    -- The bytes from each offset to the next.
    abbrev pub values_between : List O → List ℕ → List (List ℕ)
    values_between offsets values = pieces (map to_nat (map number offsets)) values

    abbrev pub values_of : Binaries O → List (List ℕ)
    values_of a = values_between a.offsets a.values

    abbrev pub slots : Binaries O → List (Option (List ℕ))
    slots a = masked_values a.mask (values_of a)

    -- The last offset is within the bytes.
    abbrev pub EndsWithin : List O → List ℕ → Type 0
    EndsWithin offsets values = end_of (map number offsets) ≤ length values

-- What every such array keeps: a mask for its slots and a type that is stored so, the last offset
-- within the bytes, and UTF-8 where it has strings.
pub record PartsFit (text large : Bool) {O : Type 0} (number : O → ℤ) (a : Binaries O) : Type 0 where
  pub laid_out : IsLaidOut (layout_in text large) a.dtype a.mask (slot_count a)
  pub within : EndsWithin number a.offsets a.values
  pub texts : AreTextsIf text (values_of number a)

-- The same with what the mask and the type keep.
pub record IsSound (text large : Bool) {O : Type 0} (number : O → ℤ) (a : Binaries O) : Type 0 where
  pub array : IsArray (layout_in text large) a.dtype a.mask (slot_count a)
  pub within : EndsWithin number a.offsets a.values
  pub texts : AreTextsIf text (values_of number a)

module _ (text large : Bool) {O : Type 0} (number : O → ℤ) where
  -- Why the parts of this array are refused: the last offset is tested first, and the strings last,
  -- each of them, those under nulls too.
  abbrev pub RefusedFor : Reason → Binaries O → Type 0
  RefusedFor OffsetPastValues a = EndsWithin number a.offsets a.values → ⊥
  RefusedFor NotUtf8 a =
      EndsWithin number a.offsets a.values
      × MaskHasLength a.mask (slot_count a)
      × (physical_of (seen a.dtype) ≡ Some (layout_in text large))
      × (AreTextsIf text (values_of number a) → ⊥)
  RefusedFor reason a =
      EndsWithin number a.offsets a.values
      × flat.RefusedFor reason (layout_in text large) a.dtype a.mask (slot_count a)

  -- never out of memory, since none is taken
  abbrev pub Refused : PolarsError → Binaries O → Type 0
  Refused (ComputeError reason) a = RefusedFor reason a
  Refused _ a = ⊥
