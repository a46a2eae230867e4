-- Layouts: a column as plain data, one node for each array, with its whole type and its parts. A buffer is seen as the
-- list of its items, a bitmap as its bits and the count of bits that stand before them in their byte.
use Rattle.std.specs.Prelude.{ℕ, suc, pred, ℤ, List, [], ◌∷◌, length, Option}
use Rattle.arrow_types.specs.TypeData.{TypeData}
use Rattle.arrow_buffers.specs.Bits.{Bits}
use Rattle.arrow_flat.specs.Views.{View}

mutual
  pub data Layout : Type 0 where
    -- Null Layout: length
    nulls : TypeData → ℕ → Layout
    -- Fixed-size Primitive Layout of single bits: mask, values
    booleans : TypeData → Option Bits → Bits → Layout
    -- Fixed-size Primitive Layout: mask, values of one to three numbers each
    primitives : TypeData → Option Bits → List (List ℤ) → Layout
    -- Variable-size Binary Layout, of bytes and text: mask, offsets, bytes
    binaries : TypeData → Option Bits → List ℤ → List ℕ → Layout
    -- Fixed-size Primitive Layout of byte strings: mask, size of a value, length, bytes
    fixed_size_binaries : TypeData → Option Bits → ℕ → ℕ → List ℕ → Layout
    -- Variable-size Binary View Layout: mask, views, buffers
    views : TypeData → Option Bits → List View → List (List ℕ) → Layout
    -- Variable-size List Layout, of lists, large lists and maps: mask, offsets, child
    lists : TypeData → Option Bits → List ℤ → Layout → Layout
    -- Fixed-Size List Layout: mask, size of a list, length, child
    fixed_size_lists : TypeData → Option Bits → ℕ → ℕ → Layout → Layout
    -- Struct Layout: mask, length, children
    structs : TypeData → Option Bits → ℕ → Layouts → Layout
    -- Sparse Union, without offsets: shift, type numbers, children; slot i reads its child at i plus the shift
    sparse_unions : TypeData → ℕ → List ℤ → Layouts → Layout
    -- Dense Union, with offsets: shift, type numbers, offsets, children
    dense_unions : TypeData → ℕ → List ℤ → List ℤ → Layouts → Layout
    -- Dictionary-encoded Layout: the keys' own type, mask, keys, values
    dictionaries : TypeData → TypeData → Option Bits → List ℤ → Layout → Layout

  pub data Layouts : Type 0 where
    no_layouts : Layouts
    child : Layout → Layouts → Layouts

abbrev pub type_of : Layout → TypeData
type_of (nulls t n) = t
type_of (booleans t m vs) = t
type_of (primitives t m vs) = t
type_of (binaries t m os bs) = t
type_of (fixed_size_binaries t m k n bs) = t
type_of (views t m vs buffers) = t
type_of (lists t m os l) = t
type_of (fixed_size_lists t m k n l) = t
type_of (structs t m n ls) = t
type_of (sparse_unions t o ts ls) = t
type_of (dense_unions t o ts os ls) = t
type_of (dictionaries t u m ks l) = t

-- How many slots it has.
abbrev pub length_of : Layout → ℕ
length_of (nulls t n) = n
length_of (booleans t m vs) = length vs.bits
length_of (primitives t m vs) = length vs
length_of (binaries t m os bs) = pred (length os)
length_of (fixed_size_binaries t m k n bs) = n
length_of (views t m vs buffers) = length vs
length_of (lists t m os l) = pred (length os)
length_of (fixed_size_lists t m k n l) = n
length_of (structs t m n ls) = n
length_of (sparse_unions t o ts ls) = length ts
length_of (dense_unions t o ts os ls) = length ts
length_of (dictionaries t u m ks l) = length ks

-- The layout with another type at its root.
abbrev pub retyped : TypeData → Layout → Layout
retyped u (nulls t n) = nulls u n
retyped u (booleans t m vs) = booleans u m vs
retyped u (primitives t m vs) = primitives u m vs
retyped u (binaries t m os bs) = binaries u m os bs
retyped u (fixed_size_binaries t m k n bs) = fixed_size_binaries u m k n bs
retyped u (views t m vs buffers) = views u m vs buffers
retyped u (lists t m os l) = lists u m os l
retyped u (fixed_size_lists t m k n l) = fixed_size_lists u m k n l
retyped u (structs t m n ls) = structs u m n ls
retyped u (sparse_unions t o ts ls) = sparse_unions u o ts ls
retyped u (dense_unions t o ts os ls) = dense_unions u o ts os ls
retyped u (dictionaries t k m ks l) = dictionaries u k m ks l

abbrev pub child_count : Layouts → ℕ
child_count no_layouts = 0
child_count (child l ls) = suc (child_count ls)

abbrev pub lengths_of : Layouts → List ℕ
lengths_of no_layouts = []
lengths_of (child l ls) = length_of l ∷ lengths_of ls

-- A list of layouts as it stands in a layout.
abbrev pub layouts : List Layout → Layouts
layouts [] = no_layouts
layouts (l ∷ ls) = child l (layouts ls)
