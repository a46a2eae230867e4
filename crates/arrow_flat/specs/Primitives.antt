-- What a contract sees of an array of fixed-width values.
use Rattle.std.specs.Prelude.{◌≡◌, ◌+◌, ◌<◌, ◌≤◌, ℕ, Bool, true, false, cond, List, length, take, drop, map, get_or, Option, Some, None}
use Rattle.std.specs.Simd.Lanes.{zip2}
use Rattle.arrow_buffers.specs.Bits.{Bits, cut_bits, needed_mask, count_unset}
use Rattle.arrow_types.specs.Carried.{IsCarried}
use Rattle.arrow_types.specs.Seen.{seen}
use Rattle.arrow_types.specs.Types.{physical_of}
use Rattle.arrow_types.specs.declared.datatype.ArrowDataType.{ArrowDataType}
use Rattle.arrow_types.specs.declared.datatype.PhysicalType.{PhysicalType}
use Rattle.arrow_types.specs.declared.datatype.PhysicalType.TheVariants as physical
use Rattle.arrow_types.specs.declared.datatype.PrimitiveType.{PrimitiveType}

-- the type, the values at all slots, and the mask
pub record Primitives (T : Type 0) : Type 0 where
  pub dtype : ArrowDataType
  pub values : List T
  pub mask : Option Bits

-- A mask has n bits, if there is one.
abbrev pub MaskHasLength : Option Bits → ℕ → Type 0
MaskHasLength None n = Unit {0}
MaskHasLength (Some b) n = length b.bits ≡ n

-- Fewer bits stand before those of a mask than a byte has.
abbrev pub IsLed : Option Bits → Type 0
IsLed None = Unit {0}
IsLed (Some b) = b.lead < 8

-- A mask has a bit at i, or those of n slots from `offset` on, if there is one.
abbrev pub HasBit : Option Bits → ℕ → Type 0
HasBit None i = Unit {0}
HasBit (Some b) i = i < length b.bits

abbrev pub HasRange : Option Bits → ℕ → ℕ → Type 0
HasRange None offset n = Unit {0}
HasRange (Some b) offset n = offset + n ≤ length b.bits

-- The mask of n slots from `offset` on; none where none of them is null.
abbrev pub cut_mask : ℕ → ℕ → Option Bits → Option Bits
cut_mask offset n None = None
cut_mask offset n (Some b) = needed_mask (cut_bits b offset n)

-- A mask has at least n bits, if there is one.
abbrev pub HasBound : Option Bits → ℕ → Type 0
HasBound None n = Unit {0}
HasBound (Some b) n = n ≤ length b.bits

-- How many bits stand in a mask.
abbrev pub mask_count : Option Bits → ℕ
mask_count None = 0
mask_count (Some b) = length b.bits

-- How many slots are null.
abbrev pub unset_in : Option Bits → ℕ
unset_in None = 0
unset_in (Some b) = count_unset b.bits

-- What every array keeps: a mask for its slots, and a type that is stored in this layout.
pub record IsLaidOut
    (layout : PhysicalType) (t : ArrowDataType) (m : Option Bits) (n : ℕ) : Type 0 where
  pub fits : MaskHasLength m n
  pub stored : physical_of (seen t) ≡ Some layout

-- The same with what the parts keep: fewer bits before a mask's own than a byte has, and a type
-- that columns have.
pub record IsArray
    (layout : PhysicalType) (t : ArrowDataType) (m : Option Bits) (n : ℕ) : Type 0 where
  pub fits : MaskHasLength m n
  pub led : IsLed m
  pub stored : physical_of (seen t) ≡ Some layout
  pub carried : IsCarried (seen t)

-- Of values of this type.
abbrev pub IsSound : PrimitiveType → ArrowDataType → Option Bits → ℕ → Type 0
IsSound p t m n = IsArray (physical.Primitive p) t m n

abbrev pub valid_at : Option Bits → ℕ → Bool
valid_at None i = true
valid_at (Some b) i = get_or b.bits i false

module _ {T : Type 0} where
  -- The values where the mask is set.
  abbrev pub masked_values : Option Bits → List T → List (Option T)
  masked_values None xs = map Some xs
  masked_values (Some b) xs = zip2 (λ bit x. cond bit (Some x) None) b.bits xs

  abbrev pub slots : Primitives T → List (Option T)
  slots a = masked_values a.mask a.values

  -- The array of n slots from `offset` on.
  abbrev pub cut : Primitives T → ℕ → ℕ → Primitives T
  cut a offset n = record {
    dtype = a.dtype;
    values = take n (drop offset a.values);
    mask = cut_mask offset n a.mask;
  }

  -- The array with another mask, or none.
  abbrev pub with_mask : Option Bits → Primitives T → Primitives T
  with_mask m a = record { dtype = a.dtype; values = a.values; mask = m }
