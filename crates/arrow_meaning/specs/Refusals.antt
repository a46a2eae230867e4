-- Why an array does not take another mask, and why there is no array of a type.
use Rattle.std.specs.Prelude.{ℕ, Option, ⊤}
use Rattle.arrow_buffers.specs.Bits.{Bits}
use Rattle.arrow_types.specs.declared.error.PolarsError.{PolarsError}
use Rattle.arrow_types.specs.declared.error.PolarsError.TheVariants.{ComputeError, InvalidOperation, OutOfMemory, Unsupported}
use Rattle.arrow_types.specs.declared.error.Reason.TheVariants.{KeyRange, LengthOverflow, NotCarried, UnionValidity}
use Rattle.arrow_types.specs.Carried.{IsCarried}
use Rattle.arrow_types.specs.TypeData.{TypeData}
use Rattle.arrow_layout.specs.Layouts.{Layout, sparse_unions, dense_unions}
use Rattle.arrow_layout.specs.Masks.{KeysInRange}
use Rattle.arrow_layout.specs.NullsFit.{NullsFit}
use Rattle.arrow_meaning.specs.Storable.{IsStorable}

abbrev pub IsUnion : Layout → Type 0
IsUnion (sparse_unions t o ts ls) = ⊤
IsUnion (dense_unions t o ts os ls) = ⊤
IsUnion _ = ⊥

-- A union takes no mask, and under the mask each key that is valid names a value.
abbrev pub TakesMask : Option Bits → Layout → Type 0
TakesMask m l = (IsUnion l → ⊥) × KeysInRange m l

-- a union takes none, and under the mask each key that is valid names a value
abbrev pub MaskRefused : PolarsError → Option Bits → Layout → Type 0
MaskRefused (InvalidOperation UnionValidity) m l = IsUnion l
MaskRefused (InvalidOperation KeyRange) m l = KeysInRange m l → ⊥
MaskRefused OutOfMemory m l = ⊤
MaskRefused _ m l = ⊥

-- Why no array has the type: columns can't store what it holds, or they could and it isn't carried.
abbrev pub TypeRefused : PolarsError → TypeData → Type 0
TypeRefused Unsupported t = IsStorable t → ⊥
TypeRefused (ComputeError NotCarried) t = IsStorable t × (IsCarried t → ⊥)
TypeRefused OutOfMemory t = IsCarried t
TypeRefused _ t = ⊥

-- Why there is no array of n slots that say nothing: that of its type, or else their counts don't fit.
abbrev pub NullsRefused : PolarsError → TypeData → ℕ → Type 0
NullsRefused (ComputeError LengthOverflow) t n = IsCarried t × (NullsFit t n → ⊥)
NullsRefused OutOfMemory t n = IsCarried t × NullsFit t n
NullsRefused e t n = TypeRefused e t
