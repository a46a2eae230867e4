-- The spelling of a type is read as the type.
use Rattle.std.proofs.Common.{◌≡◌, ◌<◌, ◌≤◌, ◌^◌, ℕ, List, [], ◌∷◌, refl, ap, ◌∙◌, Option, Some, None, option_map, arith, lt-ltb, le-leb}
use Rattle.std.specs.Prelude.{ℤ, pos, negsuc, map, Bool, option_and_then}
use Rattle.std.specs.List.{AllByRecursion}
use Rattle.serde_json.specs.Data.{boolean, string, number}
use Rattle.serde_json.specs.Find.{of_integer}
use Rattle.arrow_types.specs.TypeData.{TypeData, FieldData, FieldList, no_fields, and_field, Entries}
use Rattle.arrow_types.specs.TypeData as T
use Rattle.arrow_types.specs.Types.{more_fields}
use Rattle.arrow_types.specs.declared.datatype.IntegerType.{IntegerType}
use Rattle.arrow_types.specs.declared.datatype.IntegerType.TheVariants as integer
use Rattle.arrow_types.specs.declared.datatype.IntervalUnit.{IntervalUnit}
use Rattle.arrow_types.specs.declared.datatype.IntervalUnit.TheVariants as interval
use Rattle.arrow_types.specs.declared.datatype.TimeUnit.{TimeUnit}
use Rattle.arrow_types.specs.declared.datatype.TimeUnit.TheVariants as time
use Rattle.arrow_types.specs.declared.datatype.UnionMode.{UnionMode}
use Rattle.arrow_types.specs.declared.datatype.UnionMode.TheVariants as mode
use Rattle.type_json.specs.Values.{traverse, text_or_null, whole_in, int32_in}
use Rattle.type_json.specs.TypeJson.{integer_named, bytes_named, text_named, view_named, plain_named, named, unit_in, interval_in, mode_in, integer_in, ids_in, metadata_in, field_from, flat_two, of_two, timestamp_from, decimal_from, of_three, union_from, dictionary_from, extension_from, of_four, type_in, field_in, fields_list, integer_name, unit_name, interval_name, mode_name, text_value, whole_value, ids_value, metadata_value, type_value, field_value, fields_value, IsInt32, AreInt32, IsSpelled, FieldIsSpelled, AreSpelled}
use Rattle.type_json.proofs.MapBack.{metadata_back}
use Rattle.type_json.proofs.Walks.{list_of-items_of}

-- ---- names and parts

integer_back : (i : IntegerType) → integer_in (string (integer_name i)) ≡ Some i
unfolding integer_in integer_named
integer_back integer.Int8 = refl
integer_back integer.Int16 = refl
integer_back integer.Int32 = refl
integer_back integer.Int64 = refl
integer_back integer.Int128 = refl
integer_back integer.UInt8 = refl
integer_back integer.UInt16 = refl
integer_back integer.UInt32 = refl
integer_back integer.UInt64 = refl

unit_back : (u : TimeUnit) → unit_in (string (unit_name u)) ≡ Some u
unfolding unit_in
unit_back time.Second = refl
unit_back time.Millisecond = refl
unit_back time.Microsecond = refl
unit_back time.Nanosecond = refl

interval_back : (i : IntervalUnit) → interval_in (string (interval_name i)) ≡ Some i
unfolding interval_in
interval_back interval.YearMonth = refl
interval_back interval.DayTime = refl
interval_back interval.MonthDayNano = refl

mode_back : (m : UnionMode) → mode_in (string (mode_name m)) ≡ Some m
unfolding mode_in
mode_back mode.Dense = refl
mode_back mode.Sparse = refl

text_back : (o : Option (List ℕ)) → text_or_null (text_value o) ≡ Some o
text_back None = refl
text_back (Some s) = refl

pub whole_back : (n : ℕ) → n < 2 ^ 64 → whole_in (whole_value n) ≡ Some n
unfolding whole_in
whole_back n h = rw (lt-ltb _ _ h) refl

pub int32_back : (z : ℤ) → IsInt32 z → int32_in (number (of_integer z)) ≡ Some z
unfolding int32_in
int32_back (pos n) h = let wide : n < 2 ^ 63 = omega (arith, h) in let top : n ≤ 2147483647 = omega (arith, h) in rw (lt-ltb _ _ wide) (rw (le-leb _ _ top) refl)
int32_back (negsuc n) h = let top : n ≤ 2147483647 = omega (arith, h) in rw (le-leb _ _ top) refl

numbers_back : (zs : List ℤ) → AllByRecursion IsInt32 zs → traverse int32_in (map (λ z. number (of_integer z)) zs) ≡ Some zs
numbers_back [] h = refl
numbers_back (z ∷ zs) h =
    ap (option_and_then (λ y. option_map (λ ys. y ∷ ys) (traverse int32_in (map (λ x. number (of_integer x)) zs)))) (int32_back z h.0)
    ∙ ap (option_map (λ ys. z ∷ ys)) (numbers_back zs h.1)

ids_back : (o : Option (List ℤ)) → AreInt32 o → ids_in (ids_value o) ≡ Some o
ids_back None h = refl
ids_back (Some zs) h =
    ap (λ l. option_map (λ x. Some x) (traverse int32_in l)) (list_of-items_of (map (λ z. number (of_integer z)) zs))
    ∙ ap (option_map (λ x. Some x)) (numbers_back zs h)

-- ---- one level

timestamp_back : (u : TimeUnit) (z : Option (List ℕ)) → timestamp_from (string (unit_name u)) (text_value z) ≡ Some (T.timestamp u z)
unfolding timestamp_from
timestamp_back u z =
    ap (λ o. option_and_then (λ v. option_map (λ y. T.timestamp v y) (text_or_null (text_value z))) o) (unit_back u)
    ∙ ap (option_map (λ y. T.timestamp u y)) (text_back z)

decimal_back : (p s : ℕ) → p < 2 ^ 64 → s < 2 ^ 64 → decimal_from (whole_value p) (whole_value s) ≡ Some (T.decimal p s)
unfolding decimal_from
decimal_back p s hp hs =
    ap (λ o. option_and_then (λ n. option_map (λ k. T.decimal n k) (whole_in (whole_value s))) o) (whole_back p hp)
    ∙ ap (option_map (λ k. T.decimal p k)) (whole_back s hs)

union_back : (m : UnionMode) (is : Option (List ℤ)) (fs : FieldList) (o : Option FieldList) → AreInt32 is → o ≡ Some fs → union_from (string (mode_name m)) (ids_value is) o ≡ Some (T.union fs is m)
unfolding union_from
union_back m is fs o h e =
    ap (λ q. option_and_then (λ n. option_and_then (λ js. option_map (λ gs. T.union gs js n) o) (ids_in (ids_value is))) q) (mode_back m)
    ∙ ap (option_and_then (λ js. option_map (λ gs. T.union gs js m) o)) (ids_back is h)
    ∙ ap (option_map (λ gs. T.union gs is m)) e

dictionary_back : (k : IntegerType) (t : TypeData) (r : Option TypeData) (ordered : Bool) → r ≡ Some t → dictionary_from (string (integer_name k)) r (boolean ordered) ≡ Some (T.dictionary k t ordered)
unfolding dictionary_from
dictionary_back k t r ordered e =
    ap (option_and_then (λ i. option_and_then (λ s. Some (T.dictionary i s ordered)) r)) (integer_back k)
    ∙ ap (option_and_then (λ s. Some (T.dictionary k s ordered))) e

extension_back : (n : List ℕ) (t : TypeData) (m : Option (List ℕ)) (r : Option TypeData) → r ≡ Some t → extension_from (string n) r (text_value m) ≡ Some (T.extension n t m)
unfolding extension_from
extension_back n t m r e =
    ap (option_and_then (λ s. option_map (λ y. T.extension n s y) (text_or_null (text_value m)))) e
    ∙ ap (option_map (λ y. T.extension n t y)) (text_back m)

field_parts_back : (n : List ℕ) (t : TypeData) (b : Bool) (m : Option Entries) (r : Option TypeData) → r ≡ Some t → metadata_in (metadata_value m) ≡ Some m → field_from (string n) r (boolean b) (metadata_value m) ≡ Some (T.field n t b m)
unfolding field_from
field_parts_back n t b m r e f =
    ap (option_and_then (λ s. option_map (λ y. T.field n s b y) (metadata_in (metadata_value m)))) e
    ∙ ap (option_map (λ y. T.field n t b y)) f

-- ---- all levels

mutual
  unfolding named plain_named bytes_named text_named view_named integer_named of_two flat_two of_three of_four

  pub type_back : (t : TypeData) → IsSpelled t → type_in (type_value t) ≡ Some t
  type_back T.null h = refl
  type_back T.boolean h = refl
  type_back T.int8 h = refl
  type_back T.int16 h = refl
  type_back T.int32 h = refl
  type_back T.int64 h = refl
  type_back T.int128 h = refl
  type_back T.uint8 h = refl
  type_back T.uint16 h = refl
  type_back T.uint32 h = refl
  type_back T.uint64 h = refl
  type_back T.float16 h = absurd h
  type_back T.float32 h = absurd h
  type_back T.float64 h = absurd h
  type_back (T.timestamp u z) h = timestamp_back u z
  type_back T.date32 h = refl
  type_back T.date64 h = refl
  type_back (T.time32 u) h = ap (option_map (λ v. T.time32 v)) (unit_back u)
  type_back (T.time64 u) h = ap (option_map (λ v. T.time64 v)) (unit_back u)
  type_back (T.duration u) h = ap (option_map (λ v. T.duration v)) (unit_back u)
  type_back (T.interval i) h = ap (option_map (λ v. T.interval v)) (interval_back i)
  type_back T.binary h = refl
  type_back (T.fixed_size_binary n) h = ap (option_map (λ k. T.fixed_size_binary k)) (whole_back n h)
  type_back T.large_binary h = refl
  type_back T.utf8 h = refl
  type_back T.large_utf8 h = refl
  type_back T.binary_view h = refl
  type_back T.utf8_view h = refl
  type_back (T.list f) h = ap (option_map (λ g. T.list g)) (field_back f h)
  type_back (T.large_list f) h = ap (option_map (λ g. T.large_list g)) (field_back f h)
  type_back (T.fixed_size_list f n) h =
      ap (option_and_then (λ g. option_map (λ k. T.fixed_size_list g k) (whole_in (whole_value n)))) (field_back f h.1) ∙ ap (option_map (λ k. T.fixed_size_list f k)) (whole_back n h.0)
  type_back (T.struct fs) h = ap (option_map (λ gs. T.struct gs)) (fields_back fs h)
  type_back (T.map f o) h = ap (option_and_then (λ g. Some (T.map g o))) (field_back f h)
  type_back (T.union fs is m) h = union_back m is fs (fields_list (fields_value fs)) h.0 (fields_back fs h.1)
  type_back (T.dictionary k t o) h = dictionary_back k t (type_in (type_value t)) o (type_back t h)
  type_back (T.decimal p s) h = decimal_back p s h.0 h.1
  type_back (T.decimal256 p s) h = absurd h
  type_back (T.extension n t m) h = extension_back n t m (type_in (type_value t)) (type_back t h)
  type_back T.unknown h = absurd h

  field_back : (f : FieldData) → FieldIsSpelled f → field_in (field_value f) ≡ Some f
  field_back (T.field n t b m) h = field_parts_back n t b m (type_in (type_value t)) (type_back t h.0) (metadata_back m h.1)

  fields_back : (fs : FieldList) → AreSpelled fs → fields_list (fields_value fs) ≡ Some fs
  fields_back no_fields h = refl
  fields_back (and_field f fs) h =
      ap (λ o. more_fields o (fields_list (fields_value fs))) (field_back f h.0) ∙ ap (option_map (λ gs. and_field f gs)) (fields_back fs h.1)
