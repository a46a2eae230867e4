-- The estimated count of bytes of a layout.
use Rattle.std.specs.Prelude.{ℕ, zero, suc, ◌+◌, ◌-◌, ◌*◌, ◌/◌, pred, cond, List, [], ◌∷◌, length, map, sum, Option, Some, None}
use Rattle.arrow_types.specs.Select.{nat_of}
use Rattle.arrow_types.specs.declared.datatype.IntegerType.{IntegerType}
use Rattle.arrow_types.specs.declared.datatype.IntegerType.TheVariants as integer
use Rattle.arrow_types.specs.declared.datatype.PrimitiveType.{PrimitiveType}
use Rattle.arrow_types.specs.declared.datatype.PrimitiveType.TheVariants as primitive
use Rattle.arrow_buffers.specs.Bits.{Bits}
use Rattle.arrow_flat.specs.Views.{view_length}
use Rattle.arrow_layout.specs.Forms.{Form, form_of, primitive_by, large_by, key_by}
use Rattle.arrow_layout.specs.Layouts.{Layout, nulls, booleans, primitives, binaries, fixed_size_binaries, views, lists, fixed_size_lists, structs, sparse_unions, dense_unions, dictionaries, Layouts, no_layouts, child}

-- The bytes that bits lie in, with those that stand before them; none for no bits.
abbrev pub byte_count : ℕ → ℕ → ℕ
byte_count lead zero = 0
byte_count lead (suc n) = (lead + suc n + 7) / 8

abbrev pub bitmap_size : Bits → ℕ
bitmap_size b = byte_count b.lead (length b.bits)

abbrev pub mask_size : Option Bits → ℕ
mask_size None = 0
mask_size (Some b) = bitmap_size b

-- The bytes of one value.
abbrev pub key_width : IntegerType → ℕ
key_width integer.Int8 = 1
key_width integer.Int16 = 2
key_width integer.Int32 = 4
key_width integer.Int64 = 8
key_width integer.Int128 = 16
key_width integer.UInt8 = 1
key_width integer.UInt16 = 2
key_width integer.UInt32 = 4
key_width integer.UInt64 = 8

abbrev pub primitive_width : PrimitiveType → ℕ
primitive_width primitive.Int8 = 1
primitive_width primitive.Int16 = 2
primitive_width primitive.Int32 = 4
primitive_width primitive.Int64 = 8
primitive_width primitive.Int128 = 16
primitive_width primitive.UInt8 = 1
primitive_width primitive.UInt16 = 2
primitive_width primitive.UInt32 = 4
primitive_width primitive.UInt64 = 8
primitive_width primitive.DaysMs = 8
primitive_width primitive.MonthDayNano = 16
-- of the others there are no columns
primitive_width _ = 0

abbrev pub offset_width : Form → ℕ
offset_width f = cond (large_by f) 8 4

abbrev pub first_or_zero : List ℕ → ℕ
first_or_zero [] = 0
first_or_zero (a ∷ os) = a

abbrev pub last_after : ℕ → List ℕ → ℕ
last_after a [] = a
last_after a (b ∷ os) = last_after b os

-- How far it is from the first offset to the last.
abbrev pub span_of : List ℕ → ℕ
span_of os = last_after 0 os - first_or_zero os

abbrev mutual
  pub size_of : Layout → ℕ
  size_of (nulls t n) = 0
  size_of (booleans t m vs) = bitmap_size vs + mask_size m
  size_of (primitives t m vs) = length vs * primitive_width (primitive_by (form_of t)) + mask_size m
  size_of (binaries t m os bs) = span_of (map nat_of os) + length os * offset_width (form_of t) + mask_size m
  size_of (fixed_size_binaries t m k n bs) = length bs + mask_size m
  size_of (views t m vs buffers) = sum (map view_length vs)
  size_of (lists t m os l) = size_of l + pred (length os) * offset_width (form_of t) + mask_size m
  size_of (fixed_size_lists t m k n l) = size_of l + mask_size m
  size_of (structs t m n ls) = sizes_of ls + mask_size m
  size_of (sparse_unions t o ts ls) = length ts + sizes_of ls
  size_of (dense_unions t o ts os ls) = length ts + 4 * length ts + sizes_of ls
  size_of (dictionaries t u m ks l) = length ks * key_width (key_by (form_of t)) + mask_size m + size_of l

  pub sizes_of : Layouts → ℕ
  sizes_of no_layouts = 0
  sizes_of (child l ls) = size_of l + sizes_of ls
