-- A column from a JSON value: `{"data":D,"type":T}`, with `"slice":[o,n]` beside them or not.
use Rattle.std.specs.Prelude.{ℕ, ◌+◌, ◌/◌, ◌≤◌, ⊤, List, [], ◌∷◌, map, take, drop, replicate, get_or, length, Bool, true, false, ◌&&◌, nat_le, nat_lt, ℤ, cond, if◌then◌else◌, Option, Some, None, is_some, option_map, option_and_then, codes}
use Rattle.std.specs.Option.{option_zip}
use Rattle.serde_json.specs.Data.{Data}
use Rattle.serde_json.specs.Find.{as_str, as_null}
use Rattle.arrow_buffers.specs.Bits.{Bits}
use Rattle.arrow_buffers.specs.Offsets.{to_nat}
use Rattle.arrow_types.specs.TypeData.{TypeData, FieldList, no_fields, and_field}
use Rattle.arrow_types.specs.TypeData as T
use Rattle.arrow_types.specs.Types.{integer_type}
use Rattle.arrow_types.specs.declared.datatype.IntegerType.{IntegerType}
use Rattle.arrow_types.specs.declared.datatype.PrimitiveType.{PrimitiveType}
use Rattle.arrow_types.specs.declared.datatype.PrimitiveType.TheVariants as primitive
use Rattle.arrow_flat.specs.Views.{View, inline_view, long}
use Rattle.type_json.specs.TypeJson.{type_in}
use Rattle.type_json.specs.Values.{two_members, three_members, whole_in}
use Rattle.arrow_layout.specs.Forms.{Form, nulls_of, booleans_of, primitives_of, binaries_of, fixed_size_binaries_of, views_of, lists_of, fixed_size_lists_of, structs_of, unions_of, dictionaries_of, form_of, primitive_by}
use Rattle.arrow_layout.specs.Cut.{cut}
use Rattle.arrow_layout.specs.Layouts.{Layout, nulls, booleans, primitives, binaries, fixed_size_binaries, views, lists, fixed_size_lists, structs, sparse_unions, dense_unions, dictionaries, Layouts, no_layouts, child, length_of, retyped}
use Rattle.arrow_layout.specs.WellFormed.{WellFormed}
use Rattle.column_grammar.specs.Values.{bits_in_json, mask_in, bytes_in, signed_in, unsigned_in, number_in, triple_of, pair_of, items_in, list_in, first_integer, one_member}

-- ---- the data of each kind of layout

-- `{"mask":M,"values":text of 0 and 1}`
abbrev pub booleans_from : TypeData → Data × Data → Option Layout
booleans_from t d = option_map (λ p. booleans t p.0 p.1) (option_zip (mask_in d.0) (bits_in_json d.1))

unfoldable pub booleans_in : TypeData → Data → Option Layout
booleans_in t d = option_and_then (booleans_from t) (two_members (codes "mask") (codes "values") d)

-- `{"mask":M,"values":[v..]}`
abbrev pub primitives_from : TypeData → PrimitiveType → Data × Data → Option Layout
primitives_from t p d = option_map (λ q. primitives t q.0 q.1) (option_zip (mask_in d.0) (list_in (number_in p) d.1))

unfoldable pub primitives_in : TypeData → PrimitiveType → Data → Option Layout
primitives_in t p d = option_and_then (primitives_from t p) (two_members (codes "mask") (codes "values") d)

-- the bits of an offset beside its sign
abbrev pub offset_bits : Bool → ℕ
offset_bits large = cond large 63 31

-- `{"bytes":hex,"mask":M,"offsets":[n..]}`
abbrev pub binaries_from : TypeData → Bool → Data × (Data × Data) → Option Layout
binaries_from t large d =
    option_map (λ q. binaries t q.1.0 q.1.1 q.0) (option_zip (bytes_in d.0) (option_zip (mask_in d.1.0) (list_in (signed_in (offset_bits large)) d.1.1)))

unfoldable pub binaries_in : TypeData → Bool → Data → Option Layout
binaries_in t large d = option_and_then (binaries_from t large) (three_members (codes "bytes") (codes "mask") (codes "offsets") d)

-- `{"bytes":hex,"mask":M}`, of as many slots as the size of a value goes into the bytes
abbrev pub fixed_size_binaries_from : TypeData → ℕ → Data × Data → Option Layout
fixed_size_binaries_from t k d = option_map (λ q. fixed_size_binaries t q.1 k (length q.0 / k) q.0) (option_zip (bytes_in d.0) (mask_in d.1))

unfoldable pub fixed_size_binaries_in : TypeData → ℕ → Data → Option Layout
fixed_size_binaries_in t k d = option_and_then (fixed_size_binaries_from t k) (two_members (codes "bytes") (codes "mask") d)

-- The first four bytes of a range of a buffer, zeros where the range isn't there.
abbrev pub prefix_in : List (List ℕ) → ℕ → ℕ → ℕ → List ℕ
prefix_in buffers n b o = if nat_lt b (length buffers) && nat_le (o + n) (length (get_or buffers b [])) then take 4 (drop o (get_or buffers b [])) else replicate 4 0

-- a value of more than twelve bytes
abbrev pub long_of : List (List ℕ) → ℤ × (ℤ × ℤ) → Option View
long_of buffers z =
    if nat_lt 12 (to_nat z.0) then Some (long (to_nat z.0) (prefix_in buffers (to_nat z.0) (to_nat z.1.0) (to_nat z.1.1)) (to_nat z.1.0) (to_nat z.1.1)) else None

abbrev pub long_from : List (List ℕ) → Data × (Data × Data) → Option View
long_from buffers d = option_and_then (long_of buffers) (option_zip (unsigned_in 32 d.0) (option_zip (unsigned_in 32 d.1.0) (unsigned_in 32 d.1.1)))

abbrev pub long_in : List (List ℕ) → Data → Option View
long_in buffers d = option_and_then (long_from buffers) (option_and_then triple_of (items_in d))

-- a value of at most twelve bytes
abbrev pub inline_of : List ℕ → Option View
inline_of bs = if nat_le (length bs) 12 then Some (inline_view bs) else None

-- hexadecimal text of at most twelve bytes, or `[length,buffer,offset]`
unfoldable pub view_in : List (List ℕ) → Data → Option View
view_in buffers d = if is_some (as_str d) then option_and_then inline_of (bytes_in d) else long_in buffers d

abbrev pub views_of_parts : TypeData → Data → Option Bits → List (List ℕ) → Option Layout
views_of_parts t d m buffers = option_map (λ vs. views t m vs buffers) (list_in (view_in buffers) d)

-- `{"buffers":[hex..],"mask":M,"views":[w..]}`
abbrev pub views_from : TypeData → Data × (Data × Data) → Option Layout
views_from t d = option_and_then (λ q. views_of_parts t d.1.1 q.1 q.0) (option_zip (list_in bytes_in d.0) (mask_in d.1.0))

unfoldable pub views_in : TypeData → Data → Option Layout
views_in t d = option_and_then (views_from t) (three_members (codes "buffers") (codes "mask") (codes "views") d)

-- `{"length":n}`
unfoldable pub nulls_in : TypeData → Data → Option Layout
nulls_in t d = option_map (nulls t) (option_and_then whole_in (one_member (codes "length") d))

-- the data of a column without children, by how its type is laid out
abbrev pub flat_in : Form → TypeData → Data → Option Layout
flat_in nulls_of t d = nulls_in t d
flat_in booleans_of t d = booleans_in t d
flat_in (primitives_of p) t d = primitives_in t p d
flat_in (binaries_of large text) t d = binaries_in t large d
flat_in (fixed_size_binaries_of k) t d = fixed_size_binaries_in t k d
flat_in (views_of text) t d = views_in t d
flat_in _ t d = None

-- ---- the data of a layout over what is read of its children

-- the mask and the offsets of a list
abbrev pub lists_from : TypeData → Bool → Option Layout → Data × Data → Option Layout
lists_from t large l d = option_map (λ q. lists t q.1.0 q.1.1 q.0) (option_zip l (option_zip (mask_in d.0) (list_in (signed_in (offset_bits large)) d.1)))

-- the length and the mask of a list of one size
abbrev pub fixed_size_lists_from : TypeData → ℕ → Option Layout → Data × Data → Option Layout
fixed_size_lists_from t k l d = option_map (λ q. fixed_size_lists t q.1.1 k q.1.0 q.0) (option_zip l (option_zip (whole_in d.0) (mask_in d.1)))

-- the length and the mask of a struct
abbrev pub structs_from : TypeData → Option Layouts → Data × Data → Option Layout
structs_from t ls d = option_map (λ q. structs t q.1.1 q.1.0 q.0) (option_zip ls (option_zip (whole_in d.0) (mask_in d.1)))

-- null, or the offset of each slot
unfoldable pub union_offsets_in : Data → Option (Option (List ℤ))
union_offsets_in d = if is_some (as_null d) then Some None else option_map Some (list_in (signed_in 31) d)

-- dense with offsets, sparse without
abbrev pub union_of : TypeData → Layouts → Option (List ℤ) → List ℤ → Layout
union_of t ls None ts = sparse_unions t 0 ts ls
union_of t ls (Some os) ts = dense_unions t 0 ts os ls

-- the numbers of values that have one each
unfoldable pub singles_in : PrimitiveType → Data → Option (List ℤ)
singles_in p d = option_map (map first_integer) (list_in (number_in p) d)

-- the offsets and the type numbers of a union
abbrev pub unions_from : TypeData → Option Layouts → Data × Data → Option Layout
unions_from t ls d = option_map (λ q. union_of t q.0 q.1.0 q.1.1) (option_zip ls (option_zip (union_offsets_in d.0) (singles_in primitive.Int8 d.1)))

-- the numbers of keys of a type
abbrev pub keys_in : IntegerType → Data → Option (List ℤ)
keys_in k d = singles_in (primitive_by (form_of (integer_type k))) d

-- the keys and the mask of a dictionary
abbrev pub dictionaries_from : TypeData → IntegerType → Data × Data → Option Layout → Option Layout
dictionaries_from t k d l = option_map (λ q. dictionaries t (integer_type k) q.1.0 q.0 q.1.1) (option_zip (keys_in k d.0) (option_zip (mask_in d.1) l))

-- What the data of a type are read as, one value for each field of a struct or a union:
-- of a list or a map `{"child":D,"mask":M,"offsets":[n..]}`, of a list of one size `{"child":D,"length":n,"mask":M}`,
-- of a struct `{"children":[D..],"length":n,"mask":M}`, of a union `{"children":[D..],"offsets":[n..] or null,"types":[n..]}`,
-- of a dictionary `{"keys":[v..],"mask":M,"values":D}`, of an extension those of the type that it extends.
abbrev mutual
  pub data_in : TypeData → Data → Option Layout
  data_in (T.list (T.field n u b m)) d =
      option_and_then (λ p. lists_from (T.list (T.field n u b m)) false (data_in u p.0) p.1) (three_members (codes "child") (codes "mask") (codes "offsets") d)
  data_in (T.large_list (T.field n u b m)) d =
      option_and_then (λ p. lists_from (T.large_list (T.field n u b m)) true (data_in u p.0) p.1) (three_members (codes "child") (codes "mask") (codes "offsets") d)
  data_in (T.map (T.field n u b m) o) d =
      option_and_then (λ p. lists_from (T.map (T.field n u b m) o) false (data_in u p.0) p.1) (three_members (codes "child") (codes "mask") (codes "offsets") d)
  data_in (T.fixed_size_list (T.field n u b m) k) d =
      option_and_then (λ p. fixed_size_lists_from (T.fixed_size_list (T.field n u b m) k) k (data_in u p.0) p.1) (three_members (codes "child") (codes "length") (codes "mask") d)
  data_in (T.struct fs) d =
      option_and_then (λ p. structs_from (T.struct fs) (option_and_then (λ ds. children_in fs ds) (items_in p.0)) p.1) (three_members (codes "children") (codes "length") (codes "mask") d)
  data_in (T.union fs ids mode) d =
      option_and_then (λ p. unions_from (T.union fs ids mode) (option_and_then (λ ds. children_in fs ds) (items_in p.0)) p.1) (three_members (codes "children") (codes "offsets") (codes "types") d)
  data_in (T.dictionary k u o) d =
      option_and_then (λ p. dictionaries_from (T.dictionary k u o) k (p.0, p.1.0) (data_in u p.1.1)) (three_members (codes "keys") (codes "mask") (codes "values") d)
  data_in (T.extension n u m) d = option_map (retyped (T.extension n u m)) (data_in u d)
  data_in t d = flat_in (form_of t) t d

  -- one value for each field
  pub children_in : FieldList → List Data → Option Layouts
  children_in no_fields [] = Some no_layouts
  children_in no_fields (d ∷ ds) = None
  children_in (and_field f fs) [] = None
  children_in (and_field (T.field n u b m) fs) (d ∷ ds) = option_map (λ p. child p.0 p.1) (option_zip (data_in u d) (children_in fs ds))

-- The same by how the type is laid out, whatever extensions are around it.
abbrev pub data_by : Form → TypeData → Data → Option Layout
data_by (lists_of large u) t d = option_and_then (λ p. lists_from t large (data_in u p.0) p.1) (three_members (codes "child") (codes "mask") (codes "offsets") d)
data_by (fixed_size_lists_of k u) t d = option_and_then (λ p. fixed_size_lists_from t k (data_in u p.0) p.1) (three_members (codes "child") (codes "length") (codes "mask") d)
data_by (structs_of fs) t d =
    option_and_then (λ p. structs_from t (option_and_then (λ ds. children_in fs ds) (items_in p.0)) p.1) (three_members (codes "children") (codes "length") (codes "mask") d)
data_by (unions_of mode ids fs) t d =
    option_and_then (λ p. unions_from t (option_and_then (λ ds. children_in fs ds) (items_in p.0)) p.1) (three_members (codes "children") (codes "offsets") (codes "types") d)
data_by (dictionaries_of k u) t d = option_and_then (λ p. dictionaries_from t k (p.0, p.1.0) (data_in u p.1.1)) (three_members (codes "keys") (codes "mask") (codes "values") d)
data_by f t d = flat_in f t d

-- ---- the column

-- a layout, well formed or not, and the offset and the length of the slice that stands beside it
pub record Column : Type 0 where
  pub layout : Layout
  pub slice : Option (ℕ × ℕ)

-- the layout of the slots that a slice selects, or the whole
abbrev pub sliced_layout : Layout → Option (ℕ × ℕ) → Layout
sliced_layout l None = l
sliced_layout l (Some s) = cut l s.0 s.1

-- the slice ends within the layout
abbrev pub IsWithin : Layout → Option (ℕ × ℕ) → Type 0
IsWithin l None = ⊤
IsWithin l (Some s) = s.0 + s.1 ≤ length_of l

-- the layout of the slots that a column selects
abbrev pub selected_layout : Column → Layout
selected_layout c = sliced_layout c.layout c.slice

-- The whole layout of a column is well formed, and not the sliced part alone, and its slice ends within it.
pub record IsValidColumn (c : Column) : Type 0 where
  pub well_formed : WellFormed c.layout
  pub within : IsWithin c.layout c.slice

abbrev pub slice_from : Data × Data → Option (ℕ × ℕ)
slice_from d = option_zip (whole_in d.0) (whole_in d.1)

unfoldable pub slice_in : Data → Option (ℕ × ℕ)
slice_in d = option_and_then slice_from (option_and_then pair_of (items_in d))

abbrev pub column_from : Option (ℕ × ℕ) → Data × Data → Option Column
column_from s d = option_map (λ l. record { layout = l; slice = s }) (option_and_then (λ t. data_in t d.0) (type_in d.1))

abbrev pub sliced_from : Data × (Data × Data) → Option Column
sliced_from d = option_and_then (λ s. column_from (Some s) (d.0, d.1.1)) (slice_in d.1.0)

abbrev pub without_slice : Data → Option Column
without_slice d = option_and_then (column_from None) (two_members (codes "data") (codes "type") d)

abbrev pub with_slice : Data → Option Column
with_slice d = option_and_then sliced_from (three_members (codes "data") (codes "slice") (codes "type") d)

-- the column that a value is, where it is in the grammar
unfoldable pub column_of : Data → Option Column
column_of d = cond (is_some (two_members (codes "data") (codes "type") d)) (without_slice d) (with_slice d)
