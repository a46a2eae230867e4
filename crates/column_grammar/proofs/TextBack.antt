-- The text of a column is read as its value.
use Rattle.std.proofs.Common.{◌≡◌, ◌≤◌, ◌<◌, ◌^◌, ◌+◌, ◌*◌, ℕ, cond, Bool, true, false, List, [], ◌∷◌, refl, ap, sym, ◌∙◌, subst, arith, Option, Some, None}
use Rattle.std.specs.Prelude.{ℤ, IsUtf8, codes, ⊤, map}
use Rattle.std.specs.List.{AllByRecursion}
use Rattle.serde_json.specs.Data.{Data, depth, items_depth}
use Rattle.serde_json.specs.Read.{read}
use Rattle.serde_json.specs.View.{items_of}
use Rattle.arrow_buffers.specs.Bits.{Bits}
use Rattle.arrow_types.specs.Carried.{IsBelow}
use Rattle.arrow_types.specs.Depth.{depth_of, fields_depth}
use Rattle.arrow_types.specs.TypeData.{TypeData, FieldList, no_fields, and_field}
use Rattle.arrow_types.specs.TypeData as T
use Rattle.arrow_types.specs.Types.{logical_of}
use Rattle.arrow_types.specs.declared.datatype.IntegerType.{IntegerType}
use Rattle.arrow_types.specs.declared.datatype.UnionMode.TheVariants.{Dense, Sparse}
use Rattle.arrow_types.specs.declared.datatype.PrimitiveType.{PrimitiveType}
use Rattle.arrow_flat.specs.Numbers.{InRange, IsNumber}
use Rattle.arrow_flat.specs.Views.{View, IsView}
use Rattle.type_json.specs.TypeJson.{type_value, whole_value}
use Rattle.type_json.proofs.TypeDepth.{type_depth}
use Rattle.type_json.proofs.TypeWritten.{type_written}
use Rattle.type_json.proofs.Written.{AreWritten, line_reads, line_utf8, null_written, whole_written, none_written, item_written}
use Rattle.arrow_layout.specs.FitsHere.{AllWellFormed}
use Rattle.arrow_layout.specs.Forms.{Form, nulls_of, booleans_of, lists_of, fixed_size_lists_of, structs_of, unions_of, dictionaries_of, form_of, primitive_by, large_by, fields_by, key_by, value_by, key_range}
use Rattle.arrow_layout.specs.Layouts.{Layout, nulls, booleans, primitives, binaries, fixed_size_binaries, views, lists, fixed_size_lists, structs, sparse_unions, dense_unions, dictionaries, Layouts, no_layouts, child, type_of}
use Rattle.arrow_layout.specs.Plain.{IsPlain}
use Rattle.arrow_layout.specs.WellFormed.{WellFormed, HaveTypes, type_limit}
use Rattle.arrow_layout.proofs.FromParts.{all_well}
use Rattle.column_grammar.specs.Laws.{IsWritable}
use Rattle.column_grammar.specs.Values.{bytes_value, integer_value, list_value, number_value}
use Rattle.column_grammar.specs.Reads.{Column, column_of}
use Rattle.column_grammar.specs.Writes.{nulls_value, booleans_value, primitives_value, binaries_value, fixed_size_binaries_value, views_value, view_value, lists_value, fixed_size_lists_value, structs_value, union_offsets_value, unions_value, single_value, dictionaries_value, data_value, children_values, column_value, column_text}
use Rattle.column_grammar.proofs.ColumnBack.{spelled, column_back}
use Rattle.column_grammar.proofs.DataWritten.{IsWrittenIn, bits_written, mask_written, bytes_written, list_written, number_written, offset_written, view_written, object1_written, object2_written, object3_written, deeper, items_in_list}
use Rattle.column_grammar.proofs.LayoutBack.{key_primitive, key_number, limit_small}

abbrev whole : Layout → Column
whole l = record { layout = l; slice = None }

-- ---- the data of each kind

booleans_written : (m : Option Bits) (vs : Bits) → IsWrittenIn 3 (booleans_value m vs)
booleans_written m vs = object2_written 2 (codes "mask") (codes "values") _ _ refl refl refl (deeper 0 2 _ (omega arith) (mask_written m)) (deeper 0 2 _ (omega arith) (bits_written vs))

primitives_written : (p : PrimitiveType) (m : Option Bits) (xs : List (List ℤ)) → AllByRecursion (IsNumber p) xs → IsWrittenIn 3 (primitives_value p m xs)
primitives_written p m xs h =
    object2_written 2 (codes "mask") (codes "values") _ _ refl refl refl (deeper 0 2 _ (omega arith) (mask_written m))
    (list_written 1 (number_value p) (IsNumber p) (number_written p) xs h)

binaries_written : (limit : ℕ) (m : Option Bits) (os : List ℤ) (bs : List ℕ) → limit ≤ 2 ^ 63 → AllByRecursion (IsBelow limit) os → IsWrittenIn 3 (binaries_value m os bs)
binaries_written limit m os bs le h =
    object3_written 2 (codes "bytes") (codes "mask") (codes "offsets") _ _ _ refl refl refl refl refl refl (bytes_written 2 bs) (deeper 0 2 _ (omega arith) (mask_written m))
    (list_written 1 integer_value (IsBelow limit) (offset_written limit le) os h)

fixed_size_binaries_written : (m : Option Bits) (bs : List ℕ) → IsWrittenIn 3 (fixed_size_binaries_value m bs)
fixed_size_binaries_written m bs = object2_written 2 (codes "bytes") (codes "mask") _ _ refl refl refl (bytes_written 2 bs) (deeper 0 2 _ (omega arith) (mask_written m))

all_bytes : (buffers : List (List ℕ)) → AllByRecursion (λ bs. ⊤) buffers
all_bytes [] = tt
all_bytes (bs ∷ buffers) = (tt, all_bytes buffers)

views_written : (m : Option Bits) (vs : List View) (buffers : List (List ℕ)) → AllByRecursion (IsView buffers) vs → IsWrittenIn 3 (views_value m vs buffers)
views_written m vs buffers h =
    object3_written 2 (codes "buffers") (codes "mask") (codes "views") _ _ _ refl refl refl refl refl refl
    (list_written 1 bytes_value (λ bs. ⊤) (λ bs k. bytes_written 1 bs) buffers (all_bytes buffers)) (deeper 0 2 _ (omega arith) (mask_written m))
    (list_written 1 view_value (IsView buffers) (view_written buffers) vs h)

-- ---- how much deeper than its children's a type is

abbrev IsDeeper : ℕ → Form → Type 0
IsDeeper n (lists_of large u) = depth_of u < n
IsDeeper n (fixed_size_lists_of k u) = depth_of u < n
IsDeeper n (structs_of fs) = fields_depth fs < n
IsDeeper n (unions_of mode ids fs) = fields_depth fs < n
IsDeeper n (dictionaries_of k u) = depth_of u < n
IsDeeper n _ = 0 < n

form_deeper : (t : TypeData) → IsDeeper (depth_of (logical_of t)) (form_of t)
form_deeper (T.extension n t m) = form_deeper t
form_deeper (T.list (T.field n t b m)) = omega arith
form_deeper (T.large_list (T.field n t b m)) = omega arith
form_deeper (T.fixed_size_list (T.field n t b m) k) = omega arith
form_deeper (T.struct fs) = omega arith
form_deeper (T.map (T.field n t b m) o) = omega arith
form_deeper (T.union fs ids mode) = omega arith
form_deeper (T.dictionary k t o) = omega arith
form_deeper _ = omega arith

positive : (t : TypeData) → 0 < depth_of (logical_of t)
positive (T.extension n t m) = positive t
positive _ = omega arith

logical_depth : (t : TypeData) → depth_of (logical_of t) ≤ depth_of t
logical_depth (T.extension n t m) = let inner = logical_depth t in omega (arith, inner)
logical_depth _ = omega arith

room : (t : TypeData) (f : Form) → form_of t ≡ f → IsDeeper (depth_of (logical_of t)) f
room t f e = subst (IsDeeper (depth_of (logical_of t))) e (form_deeper t)

-- ---- the data of a layout, at most twice as deep as its type and one more

limit_fits : (large : Bool) → cond large (2 ^ 63) (2 ^ 31) ≤ 2 ^ 63
limit_fits true = omega arith
limit_fits false = omega arith

whole_in_text : (n k : ℕ) → k < 2 ^ 64 → IsWrittenIn n (whole_value k)
whole_in_text n k h = record { written = whole_written k h; shallow = omega arith }

offsets_written : (n limit : ℕ) (os : List ℤ) → limit ≤ 2 ^ 63 → AllByRecursion (IsBelow limit) os → IsWrittenIn (n + 2) (list_value (map integer_value os))
offsets_written n limit os le h = deeper 2 (n + 2) _ (omega arith) (list_written 1 integer_value (IsBelow limit) (offset_written limit le) os h)

nulls_written : (n : ℕ) → n < 2 ^ 64 → IsWrittenIn 3 (nulls_value n)
nulls_written n h = object1_written 2 (codes "length") _ refl (whole_in_text 2 n h)

lists_written : (n : ℕ) (limit : ℕ) (m : Option Bits) (os : List ℤ) (d : Data) → limit ≤ 2 ^ 63 → AllByRecursion (IsBelow limit) os → 2 ≤ n → IsWrittenIn n d → IsWrittenIn (n + 1) (lists_value m os d)
lists_written n limit m os d le h some w = subst (λ k. IsWrittenIn k (lists_value m os d)) (omega arith)
    (object3_written n (codes "child") (codes "mask") (codes "offsets") _ _ _ refl refl refl refl refl refl w (deeper 0 n _ (omega arith) (mask_written m))
    (deeper 2 n _ some (list_written 1 integer_value (IsBelow limit) (offset_written limit le) os h)))

fixed_size_lists_written : (n k : ℕ) (m : Option Bits) (d : Data) → k < 2 ^ 64 → IsWrittenIn n d → IsWrittenIn (n + 1) (fixed_size_lists_value m k d)
fixed_size_lists_written n k m d h w = subst (λ c. IsWrittenIn c (fixed_size_lists_value m k d)) (omega arith)
    (object3_written n (codes "child") (codes "length") (codes "mask") _ _ _ refl refl refl refl refl refl w (whole_in_text n k h) (deeper 0 n _ (omega arith) (mask_written m)))

structs_written : (n k : ℕ) (m : Option Bits) (ds : List Data) → k < 2 ^ 64 → IsWrittenIn n (list_value ds) → IsWrittenIn (n + 1) (structs_value m k ds)
structs_written n k m ds h w = subst (λ c. IsWrittenIn c (structs_value m k ds)) (omega arith)
    (object3_written n (codes "children") (codes "length") (codes "mask") _ _ _ refl refl refl refl refl refl w (whole_in_text n k h) (deeper 0 n _ (omega arith) (mask_written m)))

unions_written : (n : ℕ) (ts : List ℤ) (os : Option (List ℤ)) (ds : List Data) → IsWrittenIn n (union_offsets_value os) → IsWrittenIn n (list_value (map integer_value ts))
    → IsWrittenIn n (list_value ds) → IsWrittenIn (n + 1) (unions_value ts os ds)
unions_written n ts os ds offsets types w = subst (λ c. IsWrittenIn c (unions_value ts os ds)) (omega arith)
    (object3_written n (codes "children") (codes "offsets") (codes "types") _ _ _ refl refl refl refl refl refl w offsets types)

dictionaries_written : (n : ℕ) (k : IntegerType) (m : Option Bits) (ks : List ℤ) (d : Data) → AllByRecursion (InRange (key_range k)) ks → 2 ≤ n → IsWrittenIn n d
    → IsWrittenIn (n + 1) (dictionaries_value (key_primitive k) m ks d)
dictionaries_written n k m ks d h some w = subst (λ c. IsWrittenIn c (dictionaries_value (key_primitive k) m ks d)) (omega arith)
    (object3_written n (codes "keys") (codes "mask") (codes "values") _ _ _ refl refl refl refl refl refl
    (deeper 2 n _ some (list_written 1 (single_value (key_primitive k)) (InRange (key_range k)) (λ z p. number_written (key_primitive k) (z ∷ []) (key_number k z p)) ks h))
    (deeper 0 n _ (omega arith) (mask_written m)) w)

abbrev bound : TypeData → ℕ
bound t = 2 * depth_of (logical_of t) + 1

flat : (t : TypeData) (d : Data) → 0 < depth_of (logical_of t) → IsWrittenIn 3 d → IsWrittenIn (bound t) d
flat t d some w = deeper 3 (bound t) d (omega (arith, some)) w

-- an object over a child of another type
over : (t u : TypeData) (d e : Data) → depth_of (logical_of u) < depth_of (logical_of t) → (IsWrittenIn (bound u) d → IsWrittenIn (bound u + 1) e) → IsWrittenIn (bound u) d → IsWrittenIn (bound t) e
over t u d e less f w = deeper (bound u + 1) (bound t) e (omega (arith, less)) (f w)

-- an object over a list of children
over_all : (t : TypeData) (n : ℕ) (ds : List Data) (e : Data) → n < depth_of (logical_of t) → (IsWrittenIn (2 * n + 2) (list_value ds) → IsWrittenIn (2 * n + 2 + 1) e)
    → AreWritten (items_of ds) × (items_depth (items_of ds) ≤ 2 * n + 1) → IsWrittenIn (bound t) e
over_all t n ds e less f w =
    deeper (2 * n + 2 + 1) (bound t) e (omega (arith, less)) (f (subst (λ c. IsWrittenIn c (list_value ds)) (omega arith) (items_in_list (2 * n + 1) ds w)))

below : (u : TypeData) (n : ℕ) → depth_of u < n → depth_of (logical_of u) < n
below u n less = let inner = logical_depth u in omega (arith, inner, less)

some_room : (t : TypeData) → 2 ≤ bound t
some_room t = let some = positive t in omega (arith, some)

types_written : (n limit : ℕ) (ts : List ℤ) → limit ≤ 128 → AllByRecursion (IsBelow limit) ts → IsWrittenIn (n + 2) (list_value (map integer_value ts))
types_written n limit ts le h = offsets_written n limit ts (omega (arith, le)) h

mutual
  data_written : (l : Layout) → WellFormed l → IsWrittenIn (bound (type_of l)) (data_value l)
  data_written (nulls t n) h = flat t _ (room t nulls_of h.of_form) (nulls_written n h.count)
  data_written (booleans t m vs) h = flat t _ (room t booleans_of h.0.of_form) (booleans_written m vs)
  data_written (primitives t m xs) h = flat t _ (room t _ h.0.of_form) (primitives_written (primitive_by (form_of t)) m xs h.1)
  data_written (binaries t m os bs) h = flat t _ (room t _ h.0.of_form) (binaries_written _ m os bs (limit_fits (large_by (form_of t))) h.1.in_range)
  data_written (fixed_size_binaries t m c n bs) h = flat t _ (room t _ h.0.of_form) (fixed_size_binaries_written m bs)
  data_written (views t m vs buffers) h = flat t _ (room t _ h.0.of_form) (views_written m vs buffers h.1)
  data_written (lists t m os l) h =
      over t (type_of l) (data_value l) _ (below (type_of l) _ (room t _ h.0.of_form)) (lists_written (bound (type_of l)) _ m os (data_value l) (limit_fits (large_by (form_of t))) h.1.in_range (some_room (type_of l))) (data_written l h.2)
  data_written (fixed_size_lists t m c n l) h =
      over t (type_of l) (data_value l) _ (below (type_of l) _ (room t _ h.0.of_form)) (fixed_size_lists_written (bound (type_of l)) n m (data_value l) h.0.count) (data_written l h.2)
  data_written (structs t m n ls) h =
      over_all t (fields_depth (fields_by (form_of t))) (children_values ls) _ (room t _ h.0.of_form) (structs_written _ n m (children_values ls) h.0.count)
      (children_written (fields_by (form_of t)) ls h.1 (all_well (structs t m n ls) h))
  data_written (sparse_unions t o ts ls) h =
      over_all t (fields_depth (fields_by (form_of t))) (children_values ls) _ (room t _ h.0.of_form)
      (unions_written _ ts None (children_values ls) (record { written = null_written; shallow = omega arith }) (types_written _ (type_limit t) ts (limit_small t Sparse h.0.carried h.0.of_form) h.1))
      (children_written (fields_by (form_of t)) ls h.3 (all_well (sparse_unions t o ts ls) h))
  data_written (dense_unions t o ts os ls) h =
      over_all t (fields_depth (fields_by (form_of t))) (children_values ls) _ (room t _ h.0.of_form)
      (unions_written _ ts (Some os) (children_values ls) (offsets_written (2 * fields_depth (fields_by (form_of t))) (2 ^ 31) os (omega arith) h.3)
      (types_written _ (type_limit t) ts (limit_small t Dense h.0.carried h.0.of_form) h.1))
      (children_written (fields_by (form_of t)) ls h.5 (all_well (dense_unions t o ts os ls) h))
  data_written (dictionaries t u m ks l) h =
      let k = key_by (form_of t) in
      let declared : depth_of (logical_of (value_by (form_of t))) < depth_of (logical_of t) = below (value_by (form_of t)) _ (room t _ h.0.of_form) in
      over t (type_of l) (data_value l) _ (subst (λ v. depth_of v < depth_of (logical_of t)) h.4 declared)
      (λ w. subst (λ v. IsWrittenIn (bound (type_of l) + 1) (dictionaries_value (primitive_by (form_of v)) m ks (data_value l))) (sym h.1)
      (dictionaries_written (bound (type_of l)) k m ks (data_value l) h.2 (some_room (type_of l)) w))
      (data_written l h.5)

  children_written : (fs : FieldList) (ls : Layouts) → HaveTypes fs ls → AllWellFormed ls → AreWritten (items_of (children_values ls)) × (items_depth (items_of (children_values ls)) ≤ 2 * fields_depth fs + 1)
  children_written no_fields no_layouts types h = (none_written, omega arith)
  children_written no_fields (child l ls) types h = absurd types
  children_written (and_field f fs) no_layouts types h = absurd types
  children_written (and_field (T.field n t b m) fs) (child l ls) types h =
      let first = data_written l h.0 in
      let deep : depth (data_value l) ≤ bound t = subst (λ u. depth (data_value l) ≤ bound u) (sym types.0) first.shallow in
      let inner = logical_depth t in
      let rest = children_written fs ls types.1 h.1 in
      let shallow = rest.1 in
      (item_written (data_value l) (items_of (children_values ls)) first.written rest.0, omega (arith, deep, inner, shallow))

-- ---- the column

column_written : (l : Layout) → IsWritable l → depth_of (type_of l) ≤ 32 → IsWrittenIn 100 (column_value l)
column_written l h deep =
    let part = type_depth (type_of l) (spelled l h) in
    let inner = logical_depth (type_of l) in
    object2_written 99 (codes "data") (codes "type") (data_value l) (type_value (type_of l)) refl refl refl (deeper (bound (type_of l)) 99 _ (omega (arith, inner, deep)) (data_written l h.well_formed))
    (record { written = type_written (type_of l) (spelled l h) h.is_type; shallow = omega (arith, part, deep) })

pub text_reads : (l : Layout) → IsWritable l → depth_of (type_of l) ≤ 32 → read (column_text l) ≡ Some (column_value l)
unfolding column_text
text_reads l h shallow = let w = column_written l h shallow in let deep = w.shallow in line_reads (column_value l) w.written (omega (arith, deep))

pub line_is_utf8 : (l : Layout) → IsWritable l → depth_of (type_of l) ≤ 32 → IsUtf8 (column_text l)
unfolding column_text
line_is_utf8 l h shallow = line_utf8 (column_value l) (column_written l h shallow).written

-- a column without leading bits is told by its text
pub text_tells : (a b : Layout) → IsWritable a → IsWritable b → depth_of (type_of a) ≤ 32 → depth_of (type_of b) ≤ 32 → IsPlain a → IsPlain b → column_text a ≡ column_text b → a ≡ b
text_tells a b ha hb ta tb pa pb e =
    let value : Some (column_value a) ≡ Some (column_value b) = sym (text_reads a ha ta) ∙ ap read e ∙ text_reads b hb tb in
    let same : column_value a ≡ column_value b = cc in
    let columns : Some (whole a) ≡ Some (whole b) = sym (column_back a ha pa) ∙ ap column_of same ∙ column_back b hb pb in
    let column : whole a ≡ whole b = cc in
    ap (λ c. c.layout) column
