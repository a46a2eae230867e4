-- A column to its JSON value.
use Rattle.std.specs.Prelude.{ℕ, List, [], ◌∷◌, ◌++◌, take, map, ℤ, pos, Option, Some, None, codes}
use Rattle.serde_json.specs.Data.{Data, null, object, no_members, member}
use Rattle.serde_json.specs.Written.{compact_text}
use Rattle.arrow_buffers.specs.Bits.{Bits}
use Rattle.arrow_types.specs.declared.datatype.PrimitiveType.{PrimitiveType}
use Rattle.arrow_flat.specs.Views.{View, inline, long}
use Rattle.type_json.specs.TypeJson.{type_value, whole_value}
use Rattle.arrow_layout.specs.Forms.{form_of, primitive_by}
use Rattle.arrow_layout.specs.Layouts.{Layout, nulls, booleans, primitives, binaries, fixed_size_binaries, views, lists, fixed_size_lists, structs, sparse_unions, dense_unions, dictionaries, Layouts, no_layouts, child, type_of}
use Rattle.column_grammar.specs.Values.{bits_value, mask_value, bytes_value, integer_value, list_value, number_value}

-- objects of one, two and three members
abbrev pub object1 : List ℕ → Data → Data
object1 k d = object (member k d no_members)

abbrev pub object2 : List ℕ → Data → List ℕ → Data → Data
object2 k d l e = object (member k d (member l e no_members))

abbrev pub object3 : List ℕ → Data → List ℕ → Data → List ℕ → Data → Data
object3 k d l e m f = object (member k d (member l e (member m f no_members)))

abbrev pub booleans_value : Option Bits → Bits → Data
booleans_value m vs = object2 (codes "mask") (mask_value m) (codes "values") (bits_value vs)

abbrev pub primitives_value : PrimitiveType → Option Bits → List (List ℤ) → Data
primitives_value p m xs = object2 (codes "mask") (mask_value m) (codes "values") (list_value (map (number_value p) xs))

abbrev pub binaries_value : Option Bits → List ℤ → List ℕ → Data
binaries_value m os bs = object3 (codes "bytes") (bytes_value bs) (codes "mask") (mask_value m) (codes "offsets") (list_value (map integer_value os))

abbrev pub fixed_size_binaries_value : Option Bits → List ℕ → Data
fixed_size_binaries_value m bs = object2 (codes "bytes") (bytes_value bs) (codes "mask") (mask_value m)

-- the value itself where it stands inline, else where it stands
abbrev pub view_value : View → Data
view_value (inline n bs) = bytes_value (take n bs)
view_value (long n p b o) = list_value (integer_value (pos n) ∷ integer_value (pos b) ∷ integer_value (pos o) ∷ [])

abbrev pub views_value : Option Bits → List View → List (List ℕ) → Data
views_value m vs buffers =
    object3 (codes "buffers") (list_value (map bytes_value buffers)) (codes "mask") (mask_value m) (codes "views") (list_value (map view_value vs))

abbrev pub nulls_value : ℕ → Data
nulls_value n = object1 (codes "length") (whole_value n)

-- ---- over the values of the children's data

abbrev pub lists_value : Option Bits → List ℤ → Data → Data
lists_value m os d = object3 (codes "child") d (codes "mask") (mask_value m) (codes "offsets") (list_value (map integer_value os))

abbrev pub fixed_size_lists_value : Option Bits → ℕ → Data → Data
fixed_size_lists_value m n d = object3 (codes "child") d (codes "length") (whole_value n) (codes "mask") (mask_value m)

abbrev pub structs_value : Option Bits → ℕ → List Data → Data
structs_value m n ds = object3 (codes "children") (list_value ds) (codes "length") (whole_value n) (codes "mask") (mask_value m)

-- null, or the offset of each slot
abbrev pub union_offsets_value : Option (List ℤ) → Data
union_offsets_value None = null
union_offsets_value (Some os) = list_value (map integer_value os)

abbrev pub unions_value : List ℤ → Option (List ℤ) → List Data → Data
unions_value ts os ds = object3 (codes "children") (list_value ds) (codes "offsets") (union_offsets_value os) (codes "types") (list_value (map integer_value ts))

-- a value of the primitive type that has one number
abbrev pub single_value : PrimitiveType → ℤ → Data
single_value p z = number_value p (z ∷ [])

abbrev pub dictionaries_value : PrimitiveType → Option Bits → List ℤ → Data → Data
dictionaries_value p m ks d = object3 (codes "keys") (list_value (map (single_value p) ks)) (codes "mask") (mask_value m) (codes "values") d

abbrev mutual
  pub data_value : Layout → Data
  data_value (nulls t n) = nulls_value n
  data_value (booleans t m vs) = booleans_value m vs
  data_value (primitives t m xs) = primitives_value (primitive_by (form_of t)) m xs
  data_value (binaries t m os bs) = binaries_value m os bs
  data_value (fixed_size_binaries t m k n bs) = fixed_size_binaries_value m bs
  data_value (views t m vs buffers) = views_value m vs buffers
  data_value (lists t m os l) = lists_value m os (data_value l)
  data_value (fixed_size_lists t m k n l) = fixed_size_lists_value m n (data_value l)
  data_value (structs t m n ls) = structs_value m n (children_values ls)
  data_value (sparse_unions t o ts ls) = unions_value ts None (children_values ls)
  data_value (dense_unions t o ts os ls) = unions_value ts (Some os) (children_values ls)
  data_value (dictionaries t u m ks l) = dictionaries_value (primitive_by (form_of u)) m ks (data_value l)

  pub children_values : Layouts → List Data
  children_values no_layouts = []
  children_values (child l ls) = data_value l ∷ children_values ls

abbrev pub column_value : Layout → Data
column_value l = object2 (codes "data") (data_value l) (codes "type") (type_value (type_of l))

-- its compact text, and a line feed
unfoldable pub column_text : Layout → List ℕ
column_text l = compact_text (column_value l) ++ 10 ∷ []
