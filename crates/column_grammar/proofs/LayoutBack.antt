-- The data of a layout of any kind is read as the layout.
use Rattle.std.proofs.Common.{◌≡◌, ◌≤◌, ◌<◌, ◌^◌, cond, Bool, true, false, refl, ap, sym, ◌∙◌, Option, Some, None, arith, lt-ltb, List, [], ◌∷◌}
use Rattle.std.specs.Prelude.{ℕ, ℤ, pos, negsuc, map, option_map, option_and_then}
use Rattle.std.specs.Option.{option_zip}
use Rattle.std.specs.List.{AllByRecursion}
use Rattle.serde_json.specs.Data.{Data}
use Rattle.arrow_buffers.specs.Bits.{Bits}
use Rattle.arrow_types.specs.TypeData.{TypeData, FieldList, no_fields, and_field}
use Rattle.arrow_types.specs.TypeData as T
use Rattle.arrow_types.specs.Types.{integer_type}
use Rattle.arrow_types.specs.Carried.{IsBelow, IsCarried, count_fields}
use Rattle.arrow_types.specs.Select.{number_limit}
use Rattle.arrow_types.specs.declared.datatype.PrimitiveType.{PrimitiveType}
use Rattle.arrow_types.specs.declared.datatype.PrimitiveType.TheVariants as primitive
use Rattle.arrow_types.specs.declared.datatype.IntegerType.{IntegerType}
use Rattle.arrow_types.specs.declared.datatype.IntegerType.TheVariants as integer
use Rattle.arrow_types.specs.declared.datatype.UnionMode.{UnionMode}
use Rattle.arrow_types.specs.declared.datatype.UnionMode.TheVariants.{Dense, Sparse}
use Rattle.arrow_flat.specs.Numbers.{InRange, signed_range, IsNumber}
use Rattle.arrow_flat.proofs.Lists.{map-map, map-itself}
use Rattle.type_json.specs.TypeJson.{whole_value}
use Rattle.type_json.specs.Values.{whole_in, traverse}
use Rattle.type_json.proofs.Walks.{list_of-items_of}
use Rattle.arrow_layout.specs.Forms.{lists_of, fixed_size_lists_of, structs_of, unions_of, dictionaries_of, form_of, primitive_by, large_by, fields_by, ids_by, key_by, key_range}
use Rattle.arrow_layout.specs.Layouts.{Layout, nulls, booleans, primitives, binaries, fixed_size_binaries, views, lists, fixed_size_lists, structs, sparse_unions, dense_unions, dictionaries, Layouts, no_layouts, child, type_of}
use Rattle.arrow_layout.specs.Plain.{IsPlainMask, IsPlain, ArePlain}
use Rattle.arrow_layout.specs.WellFormed.{WellFormed, HaveTypes, type_limit}
use Rattle.arrow_layout.specs.FitsHere.{AllWellFormed}
use Rattle.arrow_layout.proofs.FromParts.{all_well}
use Rattle.arrow_layout.proofs.ByForm.{IsCarriedBy, carried_form}
use Rattle.column_grammar.specs.Values.{mask_in, mask_value, signed_in, integer_value, list_in, list_value, items_in, number_in, first_integer}
use Rattle.column_grammar.specs.Reads.{offset_bits, nulls_in, union_offsets_in, union_of, keys_in, singles_in, data_by, data_in, children_in}
use Rattle.column_grammar.specs.Writes.{nulls_value, booleans_value, primitives_value, binaries_value, fixed_size_binaries_value, views_value, lists_value, fixed_size_lists_value, structs_value, union_offsets_value, unions_value, single_value, dictionaries_value, data_value, children_values}
use Rattle.column_grammar.proofs.DataBack.{mask_back, list_back, offset_back, booleans_back, primitives_back, binaries_back, fixed_size_binaries_back, views_back}
use Rattle.column_grammar.proofs.DataForms.{data_form}
use Rattle.column_grammar.proofs.NumbersBack.{number_back}
use Rattle.column_grammar.proofs.Spelled.{size_positive}

limit_is : (large : Bool) → cond large (2 ^ 63) (2 ^ 31) ≡ 2 ^ offset_bits large
limit_is true = refl
limit_is false = refl

-- ---- lengths, offsets, type numbers and keys

whole_back : (n : ℕ) → n < 2 ^ 64 → whole_in (whole_value n) ≡ Some n
unfolding whole_in
whole_back n h = rw (lt-ltb _ _ h) refl

offsets_back : (large : Bool) (os : List ℤ) → AllByRecursion (IsBelow (cond large (2 ^ 63) (2 ^ 31))) os → list_in (signed_in (offset_bits large)) (list_value (map integer_value os)) ≡ Some os
offsets_back large os h = list_back (signed_in (offset_bits large)) integer_value (IsBelow (cond large (2 ^ 63) (2 ^ 31))) (offset_back large (cond large (2 ^ 63) (2 ^ 31)) (limit_is large)) os h

signed_below : (n limit : ℕ) (z : ℤ) → limit ≤ 2 ^ n → IsBelow limit z → InRange (signed_range n) z
signed_below n limit (pos k) le h = omega (arith, le, h)
signed_below n limit (negsuc k) le h = absurd h

union_offsets_back : (os : List ℤ) → AllByRecursion (IsBelow (2 ^ 31)) os → union_offsets_in (union_offsets_value (Some os)) ≡ Some (Some os)
unfolding union_offsets_in
union_offsets_back os h = ap (option_map Some) (offsets_back false os h)

nulls_back : (t : TypeData) (n : ℕ) → n < 2 ^ 64 → nulls_in t (nulls_value n) ≡ Some (nulls t n)
unfolding nulls_in
nulls_back t n h = ap (option_map (nulls t)) (whole_back n h)

no_offsets_back : union_offsets_in (union_offsets_value None) ≡ Some None
unfolding union_offsets_in
no_offsets_back = refl

-- ---- keys

abbrev pub key_primitive : IntegerType → PrimitiveType
key_primitive k = primitive_by (form_of (integer_type k))

pub key_number : (k : IntegerType) (z : ℤ) → InRange (key_range k) z → IsNumber (key_primitive k) (z ∷ [])
key_number integer.Int8 z h = (h, tt)
key_number integer.Int16 z h = (h, tt)
key_number integer.Int32 z h = (h, tt)
key_number integer.Int64 z h = (h, tt)
key_number integer.Int128 z h = (h, tt)
key_number integer.UInt8 z h = (h, tt)
key_number integer.UInt16 z h = (h, tt)
key_number integer.UInt32 z h = (h, tt)
key_number integer.UInt64 z h = (h, tt)

key_back : (k : IntegerType) (z : ℤ) → InRange (key_range k) z → number_in (key_primitive k) (single_value (key_primitive k) z) ≡ Some (z ∷ [])
key_back k z h = number_back (key_primitive k) (z ∷ []) (key_number k z h)

module _ (p : PrimitiveType) (P : ℤ → Type 0) (back : (z : ℤ) → P z → number_in p (single_value p z) ≡ Some (z ∷ [])) where
  each_single : (zs : List ℤ) → AllByRecursion P zs → traverse (number_in p) (map (single_value p) zs) ≡ Some (map (λ z. z ∷ []) zs)
  each_single [] h = refl
  each_single (z ∷ zs) h =
      ap (option_and_then (λ y. option_map (λ ys. y ∷ ys) (traverse (number_in p) (map (single_value p) zs)))) (back z h.0)
      ∙ ap (option_map (λ ys. (z ∷ []) ∷ ys)) (each_single zs h.1)

  singles_back : (zs : List ℤ) → AllByRecursion P zs → singles_in p (list_value (map (single_value p) zs)) ≡ Some zs
  unfolding singles_in list_in
  singles_back zs h =
      ap (λ o. option_map (map first_integer) o) (ap (traverse (number_in p)) (list_of-items_of (map (single_value p) zs)) ∙ each_single zs h)
      ∙ ap Some (map-map first_integer (λ z. z ∷ []) zs ∙ map-itself zs)

keys_back : (k : IntegerType) (zs : List ℤ) → AllByRecursion (InRange (key_range k)) zs → keys_in k (list_value (map (single_value (key_primitive k)) zs)) ≡ Some zs
keys_back k zs h = singles_back (key_primitive k) (InRange (key_range k)) (key_back k) zs h

types_back : (limit : ℕ) → limit ≤ 128 → (ts : List ℤ) → AllByRecursion (IsBelow limit) ts → singles_in primitive.Int8 (list_value (map integer_value ts)) ≡ Some ts
types_back limit le ts h =
    singles_back primitive.Int8 (IsBelow limit) (λ z k. number_back primitive.Int8 (z ∷ []) (signed_below 7 limit z (omega (arith, le)) k, tt)) ts h

-- ---- the data of each kind over what is read of the children

lists_back : (t : TypeData) (large : Bool) (l : Layout) (d : Data) (m : Option Bits) (os : List ℤ) → IsPlainMask m → AllByRecursion (IsBelow (cond large (2 ^ 63) (2 ^ 31))) os
    → data_in (type_of l) d ≡ Some l → data_by (lists_of large (type_of l)) t (lists_value m os d) ≡ Some (lists t m os l)
lists_back t large l d m os plain h e =
    ap (λ o. option_map (λ q. lists t q.1.0 q.1.1 q.0) (option_zip o (option_zip (mask_in (mask_value m)) (list_in (signed_in (offset_bits large)) (list_value (map integer_value os)))))) e
    ∙ ap (λ o. option_map (λ q. lists t q.1.0 q.1.1 q.0) (option_zip (Some l) (option_zip o (list_in (signed_in (offset_bits large)) (list_value (map integer_value os)))))) (mask_back m plain)
    ∙ ap (λ o. option_map (λ q. lists t q.1.0 q.1.1 q.0) (option_zip (Some l) (option_zip (Some m) o))) (offsets_back large os h)

fixed_size_lists_back : (t : TypeData) (k n : ℕ) (l : Layout) (d : Data) (m : Option Bits) → IsPlainMask m → n < 2 ^ 64 → data_in (type_of l) d ≡ Some l
    → data_by (fixed_size_lists_of k (type_of l)) t (fixed_size_lists_value m n d) ≡ Some (fixed_size_lists t m k n l)
fixed_size_lists_back t k n l d m plain h e =
    ap (λ o. option_map (λ q. fixed_size_lists t q.1.1 k q.1.0 q.0) (option_zip o (option_zip (whole_in (whole_value n)) (mask_in (mask_value m))))) e
    ∙ ap (λ o. option_map (λ q. fixed_size_lists t q.1.1 k q.1.0 q.0) (option_zip (Some l) (option_zip o (mask_in (mask_value m))))) (whole_back n h)
    ∙ ap (λ o. option_map (λ q. fixed_size_lists t q.1.1 k q.1.0 q.0) (option_zip (Some l) (option_zip (Some n) o))) (mask_back m plain)

children_read : (fs : FieldList) (ls : Layouts) (ds : List Data) → children_in fs ds ≡ Some ls → option_and_then (λ xs. children_in fs xs) (items_in (list_value ds)) ≡ Some ls
children_read fs ls ds e = ap (λ xs. children_in fs xs) (list_of-items_of ds) ∙ e

structs_back : (t : TypeData) (fs : FieldList) (n : ℕ) (ls : Layouts) (ds : List Data) (m : Option Bits) → IsPlainMask m → n < 2 ^ 64 → children_in fs ds ≡ Some ls
    → data_by (structs_of fs) t (structs_value m n ds) ≡ Some (structs t m n ls)
structs_back t fs n ls ds m plain h e =
    ap (λ o. option_map (λ q. structs t q.1.1 q.1.0 q.0) (option_zip o (option_zip (whole_in (whole_value n)) (mask_in (mask_value m))))) (children_read fs ls ds e)
    ∙ ap (λ o. option_map (λ q. structs t q.1.1 q.1.0 q.0) (option_zip (Some ls) (option_zip o (mask_in (mask_value m))))) (whole_back n h)
    ∙ ap (λ o. option_map (λ q. structs t q.1.1 q.1.0 q.0) (option_zip (Some ls) (option_zip (Some n) o))) (mask_back m plain)

unions_back : (t : TypeData) (mode : UnionMode) (ids : Option (List ℤ)) (fs : FieldList) (ls : Layouts) (ds : List Data) (os : Option (List ℤ)) (ts : List ℤ)
    → children_in fs ds ≡ Some ls → union_offsets_in (union_offsets_value os) ≡ Some os → singles_in primitive.Int8 (list_value (map integer_value ts)) ≡ Some ts
    → data_by (unions_of mode ids fs) t (unions_value ts os ds) ≡ Some (union_of t ls os ts)
unions_back t mode ids fs ls ds os ts e offsets types =
    let number = singles_in primitive.Int8 (list_value (map integer_value ts)) in
    ap (λ o. option_map (λ q. union_of t q.0 q.1.0 q.1.1) (option_zip o (option_zip (union_offsets_in (union_offsets_value os)) number))) (children_read fs ls ds e)
    ∙ ap (λ o. option_map (λ q. union_of t q.0 q.1.0 q.1.1) (option_zip (Some ls) (option_zip o number))) offsets
    ∙ ap (λ o. option_map (λ q. union_of t q.0 q.1.0 q.1.1) (option_zip (Some ls) (option_zip (Some os) o))) types

dictionaries_back : (t : TypeData) (k : IntegerType) (l : Layout) (d : Data) (m : Option Bits) (ks : List ℤ) → IsPlainMask m → AllByRecursion (InRange (key_range k)) ks
    → data_in (type_of l) d ≡ Some l → data_by (dictionaries_of k (type_of l)) t (dictionaries_value (key_primitive k) m ks d) ≡ Some (dictionaries t (integer_type k) m ks l)
dictionaries_back t k l d m ks plain h e =
    ap (λ o. option_map (λ q. dictionaries t (integer_type k) q.1.0 q.0 q.1.1) (option_zip o (option_zip (mask_in (mask_value m)) (data_in (type_of l) d)))) (keys_back k ks h)
    ∙ ap (λ o. option_map (λ q. dictionaries t (integer_type k) q.1.0 q.0 q.1.1) (option_zip (Some ks) (option_zip o (data_in (type_of l) d)))) (mask_back m plain)
    ∙ ap (λ o. option_map (λ q. dictionaries t (integer_type k) q.1.0 q.0 q.1.1) (option_zip (Some ks) (option_zip (Some m) o))) e

-- ---- the data of a layout

pub limit_small : (t : TypeData) (mode : UnionMode) → IsCarried t → form_of t ≡ unions_of mode (ids_by (form_of t)) (fields_by (form_of t)) → type_limit t ≤ 128
limit_small t mode h e =
    let few : IsCarriedBy (unions_of mode (ids_by (form_of t)) (fields_by (form_of t))) = carried_form t _ e h in
    limited (ids_by (form_of t)) (count_fields (fields_by (form_of t))) few.1
  where
    limited : (ids : Option (List ℤ)) (n : ℕ) → n ≤ 127 → number_limit ids n ≤ 128
    limited None n le = omega (arith, le)
    limited (Some ids) n le = omega arith

mutual
  pub data_back : (l : Layout) → WellFormed l → IsPlain l → data_in (type_of l) (data_value l) ≡ Some l
  data_back (nulls t n) h plain = data_form t (nulls_value n) ∙ ap (λ f. data_by f t (nulls_value n)) h.of_form ∙ nulls_back t n h.count
  data_back (booleans t m vs) h plain = data_form t (booleans_value m vs) ∙ ap (λ f. data_by f t (booleans_value m vs)) h.0.of_form ∙ booleans_back t m vs plain.0 plain.1
  data_back (primitives t m xs) h plain =
      data_form t _ ∙ ap (λ f. data_by f t (primitives_value (primitive_by (form_of t)) m xs)) h.0.of_form ∙ primitives_back t (primitive_by (form_of t)) m xs plain h.1
  data_back (binaries t m os bs) h plain =
      data_form t _ ∙ ap (λ f. data_by f t (binaries_value m os bs)) h.0.of_form
      ∙ binaries_back t (large_by (form_of t)) _ m os bs (limit_is (large_by (form_of t))) plain h.1.in_range h.2
  data_back (fixed_size_binaries t m c n bs) h plain =
      data_form t _ ∙ ap (λ f. data_by f t (fixed_size_binaries_value m bs)) h.0.of_form
      ∙ fixed_size_binaries_back t m c n bs plain (size_positive t c h.0.carried h.0.of_form) h.1 h.2
  data_back (views t m vs buffers) h plain = data_form t _ ∙ ap (λ f. data_by f t (views_value m vs buffers)) h.0.of_form ∙ views_back t m vs buffers plain h.1 h.2
  data_back (lists t m os l) h plain =
      data_form t _ ∙ ap (λ f. data_by f t (lists_value m os (data_value l))) h.0.of_form
      ∙ lists_back t (large_by (form_of t)) l (data_value l) m os plain.0 h.1.in_range (data_back l h.2 plain.1)
  data_back (fixed_size_lists t m c n l) h plain =
      data_form t _ ∙ ap (λ f. data_by f t (fixed_size_lists_value m n (data_value l))) h.0.of_form
      ∙ fixed_size_lists_back t c n l (data_value l) m plain.0 h.0.count (data_back l h.2 plain.1)
  data_back (structs t m n ls) h plain =
      data_form t _ ∙ ap (λ f. data_by f t (structs_value m n (children_values ls))) h.0.of_form
      ∙ structs_back t (fields_by (form_of t)) n ls (children_values ls) m plain.0 h.0.count (children_back (fields_by (form_of t)) ls h.1 (all_well (structs t m n ls) h) plain.1)
  data_back (sparse_unions t o ts ls) h plain =
      data_form t _ ∙ ap (λ f. data_by f t (unions_value ts None (children_values ls))) h.0.of_form
      ∙ unions_back t Sparse (ids_by (form_of t)) (fields_by (form_of t)) ls (children_values ls) None ts (children_back (fields_by (form_of t)) ls h.3 (all_well (sparse_unions t o ts ls) h) plain.1)
      no_offsets_back (types_back (type_limit t) (limit_small t Sparse h.0.carried h.0.of_form) ts h.1)
      ∙ ap (λ k. Some (sparse_unions t k ts ls)) (sym plain.0)
  data_back (dense_unions t o ts os ls) h plain =
      data_form t _ ∙ ap (λ f. data_by f t (unions_value ts (Some os) (children_values ls))) h.0.of_form
      ∙ unions_back t Dense (ids_by (form_of t)) (fields_by (form_of t)) ls (children_values ls) (Some os) ts (children_back (fields_by (form_of t)) ls h.5 (all_well (dense_unions t o ts os ls) h) plain.1)
      (union_offsets_back os h.3) (types_back (type_limit t) (limit_small t Dense h.0.carried h.0.of_form) ts h.1)
      ∙ ap (λ k. Some (dense_unions t k ts os ls)) (sym plain.0)
  data_back (dictionaries t u m ks l) h plain =
      let k = key_by (form_of t) in
      data_form t _ ∙ ap (λ f. data_by f t (dictionaries_value (primitive_by (form_of u)) m ks (data_value l))) (h.0.of_form ∙ ap (dictionaries_of k) plain.1)
      ∙ ap (λ v. data_by (dictionaries_of k (type_of l)) t (dictionaries_value (primitive_by (form_of v)) m ks (data_value l))) h.1
      ∙ dictionaries_back t k l (data_value l) m ks plain.0 h.2 (data_back l h.5 plain.2)
      ∙ ap (λ v. Some (dictionaries t v m ks l)) (sym h.1)

  children_back : (fs : FieldList) (ls : Layouts) → HaveTypes fs ls → AllWellFormed ls → ArePlain ls → children_in fs (children_values ls) ≡ Some ls
  children_back no_fields no_layouts types h plain = refl
  children_back no_fields (child l ls) types h plain = absurd types
  children_back (and_field f fs) no_layouts types h plain = absurd types
  children_back (and_field (T.field n t b m) fs) (child l ls) types h plain =
      ap (λ u. option_map (λ p. child p.0 p.1) (option_zip (data_in u (data_value l)) (children_in fs (children_values ls)))) types.0
      ∙ ap (λ o. option_map (λ p. child p.0 p.1) (option_zip o (children_in fs (children_values ls)))) (data_back l h.0 plain.0)
      ∙ ap (λ o. option_map (λ p. child p.0 p.1) (option_zip (Some l) o)) (children_back fs ls types.1 h.1 plain.1)
