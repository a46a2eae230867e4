-- The layout of n slots that say nothing: nulls, and of a union the filling of the field that its first number selects.
use Rattle.std.specs.Prelude.{ℕ, zero, suc, ◌*◌, ℤ, pos, false, List, [], ◌∷◌, map, replicate, Option, Some, None}
use Rattle.arrow_types.specs.TypeData.{TypeData, FieldList, no_fields, and_field}
use Rattle.arrow_types.specs.TypeData as T
use Rattle.arrow_types.specs.Types.{integer_type}
use Rattle.arrow_types.specs.Select.{select, first_number}
use Rattle.arrow_types.specs.declared.datatype.UnionMode.TheVariants.{Dense, Sparse}
use Rattle.arrow_buffers.specs.Bits.{Bits, plain}
use Rattle.arrow_flat.specs.Numbers.{zeros}
use Rattle.arrow_flat.specs.Views.{zero_view}
use Rattle.arrow_layout.specs.Forms.{Form, nulls_of, booleans_of, primitives_of, binaries_of, fixed_size_binaries_of, views_of, form_of}
use Rattle.arrow_layout.specs.Layouts.{Layout, nulls, booleans, primitives, binaries, fixed_size_binaries, views, lists, fixed_size_lists, structs, sparse_unions, dense_unions, dictionaries, Layouts, no_layouts, child, retyped}

-- n unset bits, and no mask for no slots.
abbrev pub null_mask : ℕ → Option Bits
null_mask zero = None
null_mask (suc n) = Some (plain (replicate (suc n) false))

-- The offsets of n slots without items.
abbrev pub null_offsets : ℕ → List ℤ
null_offsets n = replicate (suc n) (pos 0)

-- The first n numbers, from a number on.
abbrev pub count_from : ℕ → ℕ → List ℤ
count_from a zero = []
count_from a (suc n) = pos a ∷ count_from (suc a) n

-- One value for keys that are not read, and none for no keys.
abbrev pub one_if_any : ℕ → ℕ
one_if_any zero = 0
one_if_any (suc n) = 1

-- Without children: false, zeros, or nothing.
abbrev pub flat_nulls : TypeData → Form → ℕ → Layout
flat_nulls t booleans_of n = booleans t (null_mask n) (plain (replicate n false))
flat_nulls t (primitives_of p) n = primitives t (null_mask n) (replicate n (zeros p))
flat_nulls t (binaries_of large text) n = binaries t (null_mask n) (null_offsets n) []
flat_nulls t (fixed_size_binaries_of k) n = fixed_size_binaries t (null_mask n) k n (replicate (n * k) 0)
flat_nulls t (views_of text) n = views t (null_mask n) (replicate n zero_view) []
flat_nulls t _ n = nulls t n

-- Lists are empty; all children of a struct, of a fixed-size list and of a sparse union have fillings; a dense union has
-- one slot of the selected child for each slot, and its other children are empty; a dictionary has keys 0 and one filling
-- value, or none for no slots.
abbrev mutual
  pub null_layout : TypeData → ℕ → Layout
  null_layout (T.list (T.field a t b m)) n = lists (T.list (T.field a t b m)) (null_mask n) (null_offsets n) (null_layout t 0)
  null_layout (T.large_list (T.field a t b m)) n = lists (T.large_list (T.field a t b m)) (null_mask n) (null_offsets n) (null_layout t 0)
  null_layout (T.map (T.field a t b m) o) n = lists (T.map (T.field a t b m) o) (null_mask n) (null_offsets n) (null_layout t 0)
  null_layout (T.fixed_size_list (T.field a t b m) k) n =
      fixed_size_lists (T.fixed_size_list (T.field a t b m) k) (null_mask n) k n (null_layout t (n * k))
  null_layout (T.struct fs) n = structs (T.struct fs) (null_mask n) n (null_layouts fs n)
  null_layout (T.union fs ids Sparse) n =
      sparse_unions (T.union fs ids Sparse) 0 (replicate n (pos (first_number ids))) (null_layouts fs n)
  null_layout (T.union fs ids Dense) n =
      dense_unions (T.union fs ids Dense) 0 (replicate n (pos (first_number ids))) (count_from 0 n)
      (null_selected fs (select ids (first_number ids)) n)
  null_layout (T.dictionary k t o) n =
      dictionaries (T.dictionary k t o) (integer_type k) (null_mask n) (replicate n (pos 0)) (null_layout t (one_if_any n))
  null_layout (T.extension e t m) n = retyped (T.extension e t m) (null_layout t n)
  null_layout t n = flat_nulls t (form_of t) n

  -- n slots of each field
  pub null_layouts : FieldList → ℕ → Layouts
  null_layouts no_fields n = no_layouts
  null_layouts (and_field (T.field a t b m) fs) n = child (null_layout t n) (null_layouts fs n)

  -- n slots of the field at the position, and none of the others
  pub null_selected : FieldList → ℕ → ℕ → Layouts
  null_selected no_fields i n = no_layouts
  null_selected (and_field (T.field a t b m) fs) zero n = child (null_layout t n) (null_layouts fs 0)
  null_selected (and_field (T.field a t b m) fs) (suc i) n = child (null_layout t 0) (null_selected fs i n)
