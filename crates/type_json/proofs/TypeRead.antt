-- What is read as a type is a type, and is spelled.
use Rattle.std.proofs.Common.{◌≡◌, ◌<◌, ◌^◌, ℕ, Bool, true, false, List, [], ◌∷◌, Option, Some, None, refl, sym, subst, ltb-true, leb-true, arith}
use Rattle.std.specs.Prelude.{ℤ, pos, negsuc, map, ⊤, IsUtf8, ◌&&◌, nat_lt, int_le, if◌then◌else◌, option_map, option_and_then}
use Rattle.std.specs.List.{AllByRecursion}
use Rattle.std.specs.List.Sorted.{IsStrictlySortedBy}
use Rattle.serde_json.specs.Data.{Data, null, boolean, number, string, array, object, Items, no_items, item, Members, no_members, member}
use Rattle.serde_json.specs.Find.{as_str, as_bool, as_number, as_u64, as_i64}
use Rattle.arrow_types.specs.TypeData.{TypeData, FieldData, FieldList, no_fields, and_field, Entries}
use Rattle.arrow_types.specs.TypeData as T
use Rattle.arrow_types.specs.Types.{integer_type, more_fields}
use Rattle.arrow_types.specs.declared.datatype.IntegerType.{IntegerType}
use Rattle.arrow_types.specs.declared.datatype.IntegerType.TheVariants as integer
use Rattle.type_json.specs.Values.{traverse, list_of, text_or_null, within_whole, whole_in, within_int32, int32_in}
use Rattle.type_json.specs.TypeJson.{integer_or, named, plain_named, bytes_named, text_named, view_named, integer_named, flat_two, of_two, of_three, of_four, timestamp_from, decimal_from, union_from, dictionary_from, extension_from, unit_in, interval_in, mode_in, integer_in, ids_list, ids_in, entries_in, metadata_in, field_from, type_in, field_in, fields_in, fields_list, IsInt32, AreInt32, IsMap, IsSpelled, FieldIsSpelled, AreSpelled, IsText, AreTextEntries, IsMetadata, IsType, IsField, AreFields}
use Rattle.type_json.proofs.Inserted.{insert_sorted, insert_texts}
use Rattle.type_json.proofs.MapBack.{AreSorted}
use Rattle.type_json.proofs.Strings.{HasStrings, ItemsHaveStrings, MembersHaveStrings}

-- ---- a fact of what is found

abbrev OfSome : {A : Type 0} → (A → Type 0) → Option A → Type 0
OfSome P None = ⊤
OfSome P (Some x) = P x

record Holds {A : Type 0} (P : A → Type 0) (o : Option A) : Type 0 where
  holds : OfSome P o

module _ {A : Type 0} {P : A → Type 0} where
  none : Holds P None
  none = record { holds = tt }

  some : (x : A) → P x → Holds P (Some x)
  some x h = record { holds = h }

  chosen : (b : Bool) (x y : Option A) → Holds P x → Holds P y → Holds P (if b then x else y)
  chosen true x y h k = h
  chosen false x y h k = k

module _ {A B : Type 0} {P : A → Type 0} {Q : B → Type 0} where
  mapped : (f : A → B) (o : Option A) → Holds P o → ((x : A) → P x → Q (f x)) → Holds Q (option_map f o)
  mapped f None k h = none
  mapped f (Some x) k h = some (f x) (h x k.holds)

  chained : (f : A → Option B) (o : Option A) → Holds P o → ((x : A) → P x → Holds Q (f x)) → Holds Q (option_and_then f o)
  chained f None k h = none
  chained f (Some x) k h = h x k.holds

any : {A : Type 0} (o : Option A) → Holds (λ _. ⊤) o
any None = none
any (Some x) = some x tt

abbrev IsRead : TypeData → Type 0
IsRead t = IsSpelled t × IsType t

abbrev IsFieldRead : FieldData → Type 0
IsFieldRead f = FieldIsSpelled f × IsField f

abbrev AreFieldsRead : FieldList → Type 0
AreFieldsRead fs = AreSpelled fs × AreFields fs

-- ---- parts

str_holds : (d : Data) → HasStrings d → Holds IsUtf8 (as_str d)
str_holds null h = none
str_holds (boolean b) h = none
str_holds (number n) h = none
str_holds (string s) h = some s h
str_holds (array ds) h = none
str_holds (object ms) h = none

text_holds : (d : Data) → HasStrings d → Holds IsText (text_or_null d)
text_holds null h = some None tt
text_holds (boolean b) h = none
text_holds (number n) h = none
text_holds (string s) h = some (Some s) h
text_holds (array ds) h = none
text_holds (object ms) h = none

whole_by : (n : ℕ) (b : Bool) → nat_lt n (2 ^ 64) ≡ b → Holds (λ m. m < 2 ^ 64) (if b then Some n else None)
whole_by n true e = some n (ltb-true n (2 ^ 64) e)
whole_by n false e = none

whole_holds : (d : Data) → Holds (λ n. n < 2 ^ 64) (whole_in d)
unfolding whole_in
whole_holds d = chained within_whole (option_and_then as_u64 (as_number d)) (any _) (λ n _. whole_by n (nat_lt n (2 ^ 64)) refl)

int32_by : (z : ℤ) (b c : Bool) → int_le (negsuc 2147483647) z ≡ b → int_le z (pos 2147483647) ≡ c → Holds IsInt32 (if b && c then Some z else None)
int32_by (pos n) true true e f = let top = leb-true n 2147483647 f in some (pos n) (omega (arith, top))
int32_by (negsuc n) true true e f = let top = leb-true n 2147483647 e in some (negsuc n) (omega (arith, top))
int32_by z true false e f = none
int32_by z false true e f = none
int32_by z false false e f = none

int32_holds : (d : Data) → Holds IsInt32 (int32_in d)
unfolding int32_in
int32_holds d = chained within_int32 (option_and_then as_i64 (as_number d)) (any _) (λ z _. int32_by z (int_le (negsuc 2147483647) z) (int_le z (pos 2147483647)) refl refl)

numbers_hold : (ds : List Data) → Holds (AllByRecursion IsInt32) (traverse int32_in ds)
numbers_hold [] = some [] tt
numbers_hold (d ∷ ds) =
    chained (λ y. option_map (λ ys. y ∷ ys) (traverse int32_in ds)) (int32_in d) (int32_holds d)
    (λ y h. mapped (λ ys. y ∷ ys) (traverse int32_in ds) (numbers_hold ds) (λ ys hs. (h, hs)))

ids_hold : (d : Data) → Holds AreInt32 (ids_in d)
ids_hold null = some None tt
ids_hold (boolean b) = none
ids_hold (number n) = none
ids_hold (string s) = none
ids_hold (array ds) = mapped Some (traverse int32_in (list_of ds)) (numbers_hold (list_of ds)) (λ zs h. h)
ids_hold (object ms) = none

entries_hold : (ms : Members) (found : Entries) → MembersHaveStrings ms → AreSorted found → AreTextEntries found → Holds (λ es. AreSorted es × AreTextEntries es) (entries_in ms found)
entries_hold no_members found h s t = some found (s, t)
entries_hold (member k d ms) found h s t =
    chained _ (as_str d) (str_holds d h.1) (λ v u. entries_hold ms _ h.2 (insert_sorted k v found s) (insert_texts k v found h.0 u t))

nothing_sorted : AreSorted []
unfolding IsStrictlySortedBy
nothing_sorted = tt

metadata_holds : (d : Data) → HasStrings d → Holds IsMetadata (metadata_in d)
metadata_holds null h = some None (tt, tt)
metadata_holds (boolean b) h = none
metadata_holds (number n) h = none
metadata_holds (string s) h = none
metadata_holds (array ds) h = none
metadata_holds (object ms) h = mapped Some (entries_in ms []) (entries_hold ms [] h nothing_sorted tt) (λ es e. e)

-- ---- names

integer_read : (i : IntegerType) → IsRead (integer_type i)
integer_read integer.Int8 = (tt, tt)
integer_read integer.Int16 = (tt, tt)
integer_read integer.Int32 = (tt, tt)
integer_read integer.Int64 = (tt, tt)
integer_read integer.Int128 = (tt, tt)
integer_read integer.UInt8 = (tt, tt)
integer_read integer.UInt16 = (tt, tt)
integer_read integer.UInt32 = (tt, tt)
integer_read integer.UInt64 = (tt, tt)

with_integer : (o : Option TypeData) (i : Option IntegerType) → Holds IsRead o → Holds IsRead (integer_or o i)
with_integer o None h = h
with_integer o (Some i) h = some (integer_type i) (integer_read i)

view_holds : (s : List ℕ) → Holds IsRead (view_named s)
unfolding view_named
view_holds s = chosen _ (Some T.binary_view) _ (some _ (tt, tt)) (chosen _ (Some T.utf8_view) None (some _ (tt, tt)) none)

text_named_holds : (s : List ℕ) → Holds IsRead (text_named s)
unfolding text_named
text_named_holds s = chosen _ (Some T.utf8) _ (some _ (tt, tt)) (chosen _ (Some T.large_utf8) _ (some _ (tt, tt)) (view_holds s))

bytes_holds : (s : List ℕ) → Holds IsRead (bytes_named s)
unfolding bytes_named
bytes_holds s = chosen _ (Some T.binary) _ (some _ (tt, tt)) (chosen _ (Some T.large_binary) _ (some _ (tt, tt)) (text_named_holds s))

plain_holds : (s : List ℕ) → Holds IsRead (plain_named s)
unfolding plain_named
plain_holds s =
    chosen _ (Some T.null) _ (some _ (tt, tt)) (chosen _ (Some T.boolean) _ (some _ (tt, tt))
    (chosen _ (Some T.date32) _ (some _ (tt, tt)) (chosen _ (Some T.date64) _ (some _ (tt, tt)) (bytes_holds s))))

name_holds : (s : List ℕ) → Holds IsRead (named s)
unfolding named
name_holds s = with_integer (plain_named s) (integer_named s) (plain_holds s)

-- ---- one level

flat_holds : (k : List ℕ) (d : Data) → Holds IsRead (flat_two k d)
unfolding flat_two
flat_holds k d =
    chosen _ _ _ (mapped (λ u. T.time32 u) (unit_in d) (any _) (λ _ _. (tt, tt)))
    (chosen _ _ _ (mapped (λ u. T.time64 u) (unit_in d) (any _) (λ _ _. (tt, tt)))
    (chosen _ _ _ (mapped (λ u. T.duration u) (unit_in d) (any _) (λ _ _. (tt, tt)))
    (chosen _ _ _ (mapped (λ i. T.interval i) (interval_in d) (any _) (λ _ _. (tt, tt)))
    (chosen _ _ None (mapped (λ n. T.fixed_size_binary n) (whole_in d) (whole_holds d) (λ _ h. (h, tt))) none))))

two_holds : (k : List ℕ) (d : Data) (f : Option FieldData) (fs : Option FieldList) → Holds IsFieldRead f → Holds AreFieldsRead fs → Holds IsRead (of_two k d f fs)
unfolding of_two
two_holds k d f fs hf hs =
    chosen _ _ _ (mapped (λ g. T.list g) f hf (λ _ h. h))
    (chosen _ _ _ (mapped (λ g. T.large_list g) f hf (λ _ h. h)) (chosen _ _ (flat_two k d) (mapped (λ gs. T.struct gs) fs hs (λ _ h. h)) (flat_holds k d)))

timestamp_holds : (d e : Data) → HasStrings e → Holds IsRead (timestamp_from d e)
unfolding timestamp_from
timestamp_holds d e h =
    chained (λ u. option_map (λ z. T.timestamp u z) (text_or_null e)) (unit_in d) (any _) (λ u _. mapped (λ z. T.timestamp u z) (text_or_null e) (text_holds e h) (λ _ k. (tt, k)))

decimal_holds : (d e : Data) → Holds IsRead (decimal_from d e)
unfolding decimal_from
decimal_holds d e =
    chained (λ p. option_map (λ s. T.decimal p s) (whole_in e)) (whole_in d) (whole_holds d) (λ p h. mapped (λ s. T.decimal p s) (whole_in e) (whole_holds e) (λ _ k. ((h, k), tt)))

three_holds : (k : List ℕ) (d : Data) (f : Option FieldData) (e : Data) → HasStrings e → Holds IsFieldRead f → Holds IsRead (of_three k d f e)
unfolding of_three
three_holds k d f e he hf =
    chosen _ _ _ (chained (λ g. option_map (λ n. T.fixed_size_list g n) (whole_in e)) f hf (λ g h. mapped (λ n. T.fixed_size_list g n) (whole_in e) (whole_holds e) (λ _ k. ((k, h.0), h.1))))
    (chosen _ _ _ (chained (λ g. option_map (λ b. T.map g b) (as_bool e)) f hf (λ g h. mapped (λ b. T.map g b) (as_bool e) (any _) (λ _ _. h)))
    (chosen _ (timestamp_from d e) _ (timestamp_holds d e he) (chosen _ (decimal_from d e) None (decimal_holds d e) none)))

union_holds : (d e : Data) (fs : Option FieldList) → Holds AreFieldsRead fs → Holds IsRead (union_from d e fs)
unfolding union_from
union_holds d e fs hs =
    chained (λ m. option_and_then (λ is. option_map (λ gs. T.union gs is m) fs) (ids_in e)) (mode_in d) (any _)
    (λ m _. chained (λ is. option_map (λ gs. T.union gs is m) fs) (ids_in e) (ids_hold e) (λ is hi. mapped (λ gs. T.union gs is m) fs hs (λ _ h. ((hi, h.0), (hi, h.1)))))

dictionary_holds : (d : Data) (t : Option TypeData) (g : Data) → Holds IsRead t → Holds IsRead (dictionary_from d t g)
unfolding dictionary_from
dictionary_holds d t g ht =
    chained (λ k. option_and_then (λ u. option_map (λ b. T.dictionary k u b) (as_bool g)) t) (integer_in d) (any _)
    (λ k _. chained (λ u. option_map (λ b. T.dictionary k u b) (as_bool g)) t ht (λ u h. mapped (λ b. T.dictionary k u b) (as_bool g) (any _) (λ _ _. h)))

extension_holds : (d : Data) (t : Option TypeData) (g : Data) → HasStrings d → HasStrings g → Holds IsRead t → Holds IsRead (extension_from d t g)
unfolding extension_from
extension_holds d t g hd hg ht =
    chained (λ n. option_and_then (λ u. option_map (λ m. T.extension n u m) (text_or_null g)) t) (as_str d) (str_holds d hd)
    (λ n hn. chained (λ u. option_map (λ m. T.extension n u m) (text_or_null g)) t ht (λ u h. mapped (λ m. T.extension n u m) (text_or_null g) (text_holds g hg) (λ _ k. (h.0, ((hn, k), h.1)))))

four_holds : (k : List ℕ) (d e : Data) (t : Option TypeData) (g : Data) (fs : Option FieldList) → HasStrings d → HasStrings g → Holds IsRead t → Holds AreFieldsRead fs
    → Holds IsRead (of_four k d e t g fs)
unfolding of_four
four_holds k d e t g fs hd hg ht hs =
    chosen _ (union_from d e fs) _ (union_holds d e fs hs)
    (chosen _ (dictionary_from d t g) _ (dictionary_holds d t g ht) (chosen _ (extension_from d t g) None (extension_holds d t g hd hg ht) none))

field_parts_hold : (a : Data) (t : Option TypeData) (c d : Data) → HasStrings a → HasStrings d → Holds IsRead t → Holds IsFieldRead (field_from a t c d)
unfolding field_from
field_parts_hold a t c d ha hd ht =
    chained _ (as_str a) (str_holds a ha) (λ n hn. chained _ t ht (λ u h. chained _ (as_bool c) (any _)
    (λ b _. mapped (λ m. T.field n u b m) (metadata_in d) (metadata_holds d hd) (λ _ k. ((h.0, k.0), ((hn, k), h.1))))))

more_hold : (f : Option FieldData) (fs : Option FieldList) → Holds IsFieldRead f → Holds AreFieldsRead fs → Holds AreFieldsRead (more_fields f fs)
more_hold None fs h hs = none
more_hold (Some f) fs h hs = mapped (λ gs. and_field f gs) fs hs (λ _ k. ((h.holds.0, k.0), (h.holds.1, k.1)))

-- ---- all levels

mutual
  type_holds : (d : Data) → HasStrings d → Holds IsRead (type_in d)
  type_holds null h = none
  type_holds (boolean b) h = none
  type_holds (number n) h = none
  type_holds (string s) h = name_holds s
  type_holds (array no_items) h = none
  type_holds (array (item a no_items)) h = none
  type_holds (array (item a (item b no_items))) h =
      chained (λ k. of_two k b (field_in b) (fields_in b)) (as_str a) (any _) (λ k _. two_holds k b (field_in b) (fields_in b) (field_holds b h.1.0) (fields_hold b h.1.0))
  type_holds (array (item a (item b (item c no_items)))) h =
      chained (λ k. of_three k b (field_in b) c) (as_str a) (any _) (λ k _. three_holds k b (field_in b) c h.1.1.0 (field_holds b h.1.0))
  type_holds (array (item a (item b (item c (item d no_items))))) h =
      chained (λ k. of_four k b c (type_in c) d (fields_in d)) (as_str a) (any _)
      (λ k _. four_holds k b c (type_in c) d (fields_in d) h.1.0 h.1.1.1.0 (type_holds c h.1.1.0) (fields_hold d h.1.1.1.0))
  type_holds (array (item a (item b (item c (item d (item e ds)))))) h = none
  type_holds (object ms) h = none

  field_holds : (d : Data) → HasStrings d → Holds IsFieldRead (field_in d)
  field_holds (array (item a (item b (item c (item d no_items))))) h = field_parts_hold a (type_in b) c d h.0 h.1.1.1.0 (type_holds b h.1.0)
  field_holds (array no_items) h = none
  field_holds (array (item a no_items)) h = none
  field_holds (array (item a (item b no_items))) h = none
  field_holds (array (item a (item b (item c no_items)))) h = none
  field_holds (array (item a (item b (item c (item d (item e ds)))))) h = none
  field_holds null h = none
  field_holds (boolean b) h = none
  field_holds (number n) h = none
  field_holds (string s) h = none
  field_holds (object ms) h = none

  fields_hold : (d : Data) → HasStrings d → Holds AreFieldsRead (fields_in d)
  fields_hold (array ds) h = list_holds ds h
  fields_hold null h = none
  fields_hold (boolean b) h = none
  fields_hold (number n) h = none
  fields_hold (string s) h = none
  fields_hold (object ms) h = none

  list_holds : (ds : Items) → ItemsHaveStrings ds → Holds AreFieldsRead (fields_list ds)
  list_holds no_items h = some no_fields (tt, tt)
  list_holds (item d ds) h = more_hold (field_in d) (fields_list ds) (field_holds d h.0) (list_holds ds h.1)

pub type_read : (d : Data) (t : TypeData) → HasStrings d → type_in d ≡ Some t → IsSpelled t × IsType t
type_read d t h e = (subst (Holds IsRead) e (type_holds d h)).holds
