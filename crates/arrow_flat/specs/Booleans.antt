-- What a contract sees of an array of bits.
use Rattle.std.specs.Prelude.{◌<◌, ℕ, Bool, List, length, Option}
use Rattle.arrow_buffers.specs.Bits.{Bits, cut_bits}
use Rattle.arrow_types.specs.declared.datatype.ArrowDataType.{ArrowDataType}
use Rattle.arrow_types.specs.declared.datatype.PhysicalType.TheVariants as physical
use Rattle.arrow_flat.specs.Primitives.{IsArray, masked_values, cut_mask}

-- the type, the values at all slots, and the mask
pub record Booleans : Type 0 where
  pub dtype : ArrowDataType
  pub values : Bits
  pub mask : Option Bits

-- What every array of bits and its parts keep.
pub record IsSound (t : ArrowDataType) (m : Option Bits) (values : Bits) : Type 0 where
  pub array : IsArray physical.Boolean t m (length values.bits)
  pub led : values.lead < 8

abbrev pub slots : Booleans → List (Option Bool)
slots a = masked_values a.mask a.values.bits

-- The array of n slots from `offset` on.
abbrev pub cut : Booleans → ℕ → ℕ → Booleans
cut a offset n = record {
  dtype = a.dtype;
  values = cut_bits a.values offset n;
  mask = cut_mask offset n a.mask;
}

-- The array with another mask, or none.
abbrev pub with_mask : Option Bits → Booleans → Booleans
with_mask m a = record { dtype = a.dtype; values = a.values; mask = m }
