-- What a contract sees of an array of byte strings of one size.
use Rattle.std.specs.Prelude.{◌≡◌, ℕ, ◌*◌, ◌/◌, ◌%◌, ◌<◌, List, length, take, drop, Option, Some, None}
use Rattle.std.specs.Option.{unwrap_or}
use Rattle.arrow_buffers.specs.Bits.{Bits}
use Rattle.arrow_types.specs.Carried.{IsCarried}
use Rattle.arrow_types.specs.Seen.{seen}
use Rattle.arrow_types.specs.TypeData.{TypeData}
use Rattle.arrow_types.specs.TypeData as T
use Rattle.arrow_types.specs.declared.datatype.ArrowDataType.{ArrowDataType}
use Rattle.arrow_types.specs.declared.error.PolarsError.{PolarsError}
use Rattle.arrow_types.specs.declared.error.PolarsError.TheVariants.{ComputeError}
use Rattle.arrow_types.specs.declared.error.Reason.{Reason}
use Rattle.arrow_types.specs.declared.error.Reason.TheVariants.{MaskLength, WrongLogicalType, NotCarried, NotMultiple}
use Rattle.arrow_flat.specs.Primitives.{MaskHasLength, IsLed, cut_mask, masked_values}
use Rattle.arrow_flat.specs.Pieces.{chunks}

-- the type, the size of a value, the bytes of all slots, and the mask
pub record FixedSizeBinaries : Type 0 where
  pub dtype : ArrowDataType
  pub size : ℕ
  pub values : List ℕ
  pub mask : Option Bits

-- The size that a type of such values declares, through extensions.
abbrev pub declared_size : TypeData → Option ℕ
declared_size (T.fixed_size_binary k) = Some k
declared_size (T.extension n t m) = declared_size t
declared_size _ = None

-- The same, 0 for another type.
abbrev pub size_or_zero : TypeData → ℕ
size_or_zero t = unwrap_or (declared_size t) 0

-- How many slots there are.
abbrev pub slot_count : FixedSizeBinaries → ℕ
slot_count a = length a.values / a.size

abbrev pub values_of : FixedSizeBinaries → List (List ℕ)
values_of a = chunks a.size (slot_count a) a.values

abbrev pub slots : FixedSizeBinaries → List (Option (List ℕ))
slots a = masked_values a.mask (values_of a)

-- The array of n slots from `offset` on.
abbrev pub cut : FixedSizeBinaries → ℕ → ℕ → FixedSizeBinaries
cut a offset n = record {
  dtype = a.dtype;
  size = a.size;
  values = take (n * a.size) (drop (offset * a.size) a.values);
  mask = cut_mask offset n a.mask;
}

-- The array with another mask, or none.
abbrev pub with_mask : Option Bits → FixedSizeBinaries → FixedSizeBinaries
with_mask m a = record { dtype = a.dtype; size = a.size; values = a.values; mask = m }

-- What every such array keeps: its type declares the size, which isn't 0 and divides the count of
-- bytes, and a mask has one bit a slot.
pub record PartsFit (a : FixedSizeBinaries) : Type 0 where
  pub sized : declared_size (seen a.dtype) ≡ Some a.size
  pub positive : 0 < a.size
  pub multiple : length a.values % a.size ≡ 0
  pub fits : MaskHasLength a.mask (slot_count a)

-- The same with what the mask and the type keep.
pub record IsSound (a : FixedSizeBinaries) : Type 0 where
  pub sized : declared_size (seen a.dtype) ≡ Some a.size
  pub positive : 0 < a.size
  pub multiple : length a.values % a.size ≡ 0
  pub fits : MaskHasLength a.mask (slot_count a)
  pub led : IsLed a.mask
  pub carried : IsCarried (seen a.dtype)

-- Why parts are refused, of which the type declares this size: the first test that fails.
abbrev pub RefusedAt : Reason → Option ℕ → Option Bits → ℕ → Type 0
RefusedAt WrongLogicalType size m n = size ≡ None
RefusedAt NotCarried size m n = size ≡ Some 0
RefusedAt NotMultiple (Some k) m n = (0 < k) × (n % k ≡ 0 → ⊥)
RefusedAt MaskLength (Some k) m n = (0 < k) × (n % k ≡ 0) × (MaskHasLength m (n / k) → ⊥)
RefusedAt _ size m n = ⊥

-- never out of memory, since none is taken
abbrev pub Refused : PolarsError → ArrowDataType → Option Bits → ℕ → Type 0
Refused (ComputeError reason) t m n = RefusedAt reason (declared_size (seen t)) m n
Refused _ t m n = ⊥
