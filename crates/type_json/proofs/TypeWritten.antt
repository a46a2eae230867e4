-- The spelling of a type is a value whose text is read back, and it nests little deeper than the type.
use Rattle.std.proofs.Common.{◌≡◌, max, ℕ, List, [], ◌∷◌, ◌++◌, refl, ap, sym, subst, Option, Some, None, append_assoc, true, false}
use Rattle.std.specs.Prelude.{ℤ, codes, map}
use Rattle.std.specs.List.Sorted.{IsStrictlySortedBy}
use Rattle.json.specs.Tree as tree
use Rattle.json.proofs.Printed.Utf8.{IsUtf8-are_ascii, are_ascii}
use Rattle.serde_json.specs.Data.{Data, boolean, string, number, array, object, no_items, item, member, members_depth}
use Rattle.serde_json.specs.Find.{of_integer}
use Rattle.serde_json.specs.View.{items_of}
use Rattle.serde_json.specs.Written.{members_outline, members_have_float}
use Rattle.arrow_types.specs.TypeData.{TypeData, FieldData, FieldList, no_fields, and_field, Entries}
use Rattle.arrow_types.specs.TypeData as T
use Rattle.arrow_types.specs.declared.datatype.IntegerType.{IntegerType}
use Rattle.arrow_types.specs.declared.datatype.IntegerType.TheVariants as integer
use Rattle.arrow_types.specs.declared.datatype.IntervalUnit.{IntervalUnit}
use Rattle.arrow_types.specs.declared.datatype.IntervalUnit.TheVariants as interval
use Rattle.arrow_types.specs.declared.datatype.TimeUnit.{TimeUnit}
use Rattle.arrow_types.specs.declared.datatype.TimeUnit.TheVariants as time
use Rattle.arrow_types.specs.declared.datatype.UnionMode.{UnionMode}
use Rattle.arrow_types.specs.declared.datatype.UnionMode.TheVariants as mode
use Rattle.type_json.specs.TypeJson.{integer_name, unit_name, interval_name, mode_name, text_value, whole_value, ids_value, metadata_value, two, three, four, type_value, field_value, fields_value, AreInt32, IsMap, IsSpelled, FieldIsSpelled, AreSpelled, IsText, AreTextEntries, EntriesAreTexts, IsType, IsField, AreFields}
use Rattle.type_json.proofs.MapBack.{AreSorted, members_from, above, with_entries_sorted}
use Rattle.type_json.specs.Texts.{snoc, AreBelow}
use Rattle.type_json.proofs.Sound.{MembersAreSound}
use Rattle.type_json.proofs.Utf8.{MembersHaveUtf8}
use Rattle.type_json.proofs.Written.{IsWritten, AreWritten, null_written, boolean_written, string_written, whole_written, int32s_written, none_written, item_written, array_written}

-- ---- names

named_written : (s : List ℕ) → are_ascii s ≡ true → IsWritten (string s)
named_written s e = string_written s (IsUtf8-are_ascii s e)

integer_written : (i : IntegerType) → IsWritten (string (integer_name i))
integer_written integer.Int8 = named_written (codes "int8") refl
integer_written integer.Int16 = named_written (codes "int16") refl
integer_written integer.Int32 = named_written (codes "int32") refl
integer_written integer.Int64 = named_written (codes "int64") refl
integer_written integer.Int128 = named_written (codes "int128") refl
integer_written integer.UInt8 = named_written (codes "uint8") refl
integer_written integer.UInt16 = named_written (codes "uint16") refl
integer_written integer.UInt32 = named_written (codes "uint32") refl
integer_written integer.UInt64 = named_written (codes "uint64") refl

unit_written : (u : TimeUnit) → IsWritten (string (unit_name u))
unit_written time.Second = named_written (codes "s") refl
unit_written time.Millisecond = named_written (codes "ms") refl
unit_written time.Microsecond = named_written (codes "us") refl
unit_written time.Nanosecond = named_written (codes "ns") refl

interval_written : (i : IntervalUnit) → IsWritten (string (interval_name i))
interval_written interval.YearMonth = named_written (codes "year_month") refl
interval_written interval.DayTime = named_written (codes "day_time") refl
interval_written interval.MonthDayNano = named_written (codes "month_day_nano") refl

mode_written : (m : UnionMode) → IsWritten (string (mode_name m))
mode_written mode.Dense = named_written (codes "dense") refl
mode_written mode.Sparse = named_written (codes "sparse") refl

-- ---- parts

text_written : (o : Option (List ℕ)) → IsText o → IsWritten (text_value o)
text_written None h = null_written
text_written (Some s) h = string_written s h

ids_written : (o : Option (List ℤ)) → AreInt32 o → IsWritten (ids_value o)
ids_written None h = null_written
ids_written (Some zs) h = array_written (items_of (map (λ z. number (of_integer z)) zs)) (int32s_written zs h)

below_all : (done : Entries) (e : List ℕ × List ℕ) (more : Entries) → AreSorted (done ++ e ∷ more) → AreBelow (members_from done) e.0
unfolding IsStrictlySortedBy
below_all [] e more h = tt
below_all (x ∷ done) e more h = (above x.0 done e more h.0, below_all done e more h.1)

snoc_from : (done : Entries) (e : List ℕ × List ℕ) → members_from (done ++ e ∷ []) ≡ snoc (members_from done) e.0 (string e.1)
snoc_from [] e = refl
snoc_from (x ∷ done) e = ap (member x.0 (string x.1)) (snoc_from done e)

members_sound : (done es : Entries) → AreSorted (done ++ es) → MembersAreSound (members_from done) (members_from es)
members_sound done [] h = tt
members_sound done (e ∷ es) h = (
  below_all done e es h,
  tt,
  subst (λ ms. MembersAreSound ms (members_from es)) (snoc_from done e) (members_sound (done ++ e ∷ []) es (subst AreSorted (sym (append_assoc done (e ∷ []) es)) h)),
)

members_no_float : (es : Entries) → members_have_float (members_from es) ≡ false
members_no_float [] = refl
members_no_float (e ∷ es) = members_no_float es

members_numbers : (es : Entries) → tree.MembersHaveNumbers (members_outline (members_from es))
members_numbers [] = tt
members_numbers (e ∷ es) = (tt, members_numbers es)

members_utf8 : (es : Entries) → AreTextEntries es → MembersHaveUtf8 (members_from es)
members_utf8 [] h = tt
members_utf8 (e ∷ es) h = (h.0.0, h.0.1, members_utf8 es h.1)

pub members_flat : (es : Entries) → members_depth (members_from es) ≡ 0
members_flat [] = refl
members_flat (e ∷ es) = ap (max 0) (members_flat es)

entries_written : (es : Entries) → AreSorted es → AreTextEntries es → IsWritten (object (members_from es))
entries_written es sorted texts = record { no_float = members_no_float es; sound = members_sound [] es sorted; numbers = members_numbers es; utf8 = members_utf8 es texts }

metadata_written : (m : Option Entries) → IsMap m → EntriesAreTexts m → IsWritten (metadata_value m)
metadata_written None h k = null_written
metadata_written (Some es) h k = subst (λ ms. IsWritten (object ms)) (sym (with_entries_sorted [] es h)) (entries_written es h k)

two_written : (k : List ℕ) (a : Data) → IsWritten (string k) → IsWritten a → IsWritten (two k a)
two_written k a h ha = array_written _ (item_written (string k) (item a no_items) h (item_written a no_items ha none_written))

three_written : (k : List ℕ) (a b : Data) → IsWritten (string k) → IsWritten a → IsWritten b → IsWritten (three k a b)
three_written k a b h ha hb = array_written _ (item_written (string k) (item a (item b no_items)) h (item_written a (item b no_items) ha (item_written b no_items hb none_written)))

four_written : (k : List ℕ) (a b c : Data) → IsWritten (string k) → IsWritten a → IsWritten b → IsWritten c → IsWritten (four k a b c)
four_written k a b c h ha hb hc =
    array_written _ (item_written (string k) (item a (item b (item c no_items))) h (item_written a (item b (item c no_items)) ha (item_written b (item c no_items) hb (item_written c no_items hc none_written))))

-- ---- all levels

mutual
  pub type_written : (t : TypeData) → IsSpelled t → IsType t → IsWritten (type_value t)
  type_written T.null h k = named_written (codes "null") refl
  type_written T.boolean h k = named_written (codes "boolean") refl
  type_written T.int8 h k = named_written (codes "int8") refl
  type_written T.int16 h k = named_written (codes "int16") refl
  type_written T.int32 h k = named_written (codes "int32") refl
  type_written T.int64 h k = named_written (codes "int64") refl
  type_written T.int128 h k = named_written (codes "int128") refl
  type_written T.uint8 h k = named_written (codes "uint8") refl
  type_written T.uint16 h k = named_written (codes "uint16") refl
  type_written T.uint32 h k = named_written (codes "uint32") refl
  type_written T.uint64 h k = named_written (codes "uint64") refl
  type_written T.float16 h k = absurd h
  type_written T.float32 h k = absurd h
  type_written T.float64 h k = absurd h
  type_written (T.timestamp u z) h k = three_written (codes "timestamp") (string (unit_name u)) (text_value z) (named_written (codes "timestamp") refl) (unit_written u) (text_written z k)
  type_written T.date32 h k = named_written (codes "date32") refl
  type_written T.date64 h k = named_written (codes "date64") refl
  type_written (T.time32 u) h k = two_written (codes "time32") (string (unit_name u)) (named_written (codes "time32") refl) (unit_written u)
  type_written (T.time64 u) h k = two_written (codes "time64") (string (unit_name u)) (named_written (codes "time64") refl) (unit_written u)
  type_written (T.duration u) h k = two_written (codes "duration") (string (unit_name u)) (named_written (codes "duration") refl) (unit_written u)
  type_written (T.interval i) h k = two_written (codes "interval") (string (interval_name i)) (named_written (codes "interval") refl) (interval_written i)
  type_written T.binary h k = named_written (codes "binary") refl
  type_written (T.fixed_size_binary n) h k = two_written (codes "fixed_size_binary") (whole_value n) (named_written (codes "fixed_size_binary") refl) (whole_written n h)
  type_written T.large_binary h k = named_written (codes "large_binary") refl
  type_written T.utf8 h k = named_written (codes "utf8") refl
  type_written T.large_utf8 h k = named_written (codes "large_utf8") refl
  type_written T.binary_view h k = named_written (codes "binary_view") refl
  type_written T.utf8_view h k = named_written (codes "utf8_view") refl
  type_written (T.list f) h k = two_written (codes "list") (field_value f) (named_written (codes "list") refl) (field_written f h k)
  type_written (T.large_list f) h k = two_written (codes "large_list") (field_value f) (named_written (codes "large_list") refl) (field_written f h k)
  type_written (T.fixed_size_list f n) h k = three_written (codes "fixed_size_list") (field_value f) (whole_value n) (named_written (codes "fixed_size_list") refl) (field_written f h.1 k) (whole_written n h.0)
  type_written (T.struct fs) h k = two_written (codes "struct") (array (fields_value fs)) (named_written (codes "struct") refl) (array_written (fields_value fs) (fields_written fs h k))
  type_written (T.map f o) h k = three_written (codes "map") (field_value f) (boolean o) (named_written (codes "map") refl) (field_written f h k) (boolean_written o)
  type_written (T.union fs is m) h k = four_written (codes "union") (string (mode_name m)) (ids_value is) (array (fields_value fs)) (named_written (codes "union") refl) (mode_written m) (ids_written is h.0) (array_written (fields_value fs) (fields_written fs h.1 k.1))
  type_written (T.dictionary i t o) h k = four_written (codes "dictionary") (string (integer_name i)) (type_value t) (boolean o) (named_written (codes "dictionary") refl) (integer_written i) (type_written t h k) (boolean_written o)
  type_written (T.decimal p s) h k = three_written (codes "decimal") (whole_value p) (whole_value s) (named_written (codes "decimal") refl) (whole_written p h.0) (whole_written s h.1)
  type_written (T.decimal256 p s) h k = absurd h
  type_written (T.extension n t m) h k = four_written (codes "extension") (string n) (type_value t) (text_value m) (named_written (codes "extension") refl) (string_written n k.0.0) (type_written t h k.1) (text_written m k.0.1)
  type_written T.unknown h k = absurd h

  field_written : (f : FieldData) → FieldIsSpelled f → IsField f → IsWritten (field_value f)
  field_written (T.field n t b m) h k = four_written n (type_value t) (boolean b) (metadata_value m) (string_written n k.0.0) (type_written t h.0 k.1) (boolean_written b) (metadata_written m h.1 k.0.1.1)

  fields_written : (fs : FieldList) → AreSpelled fs → AreFields fs → AreWritten (fields_value fs)
  fields_written no_fields h k = none_written
  fields_written (and_field f fs) h k = item_written (field_value f) (fields_value fs) (field_written f h.0 k.0) (fields_written fs h.1 k.1)
