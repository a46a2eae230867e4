-- How the type of a column is spelled as a JSON value, and which type a value spells.
use Rattle.std.specs.Prelude.{ℕ, ◌<◌, ◌^◌, ⊤, List, [], ◌∷◌, map, ℤ, pos, negsuc, if◌then◌else◌, Option, Some, None, option_map, option_and_then, codes, bytes_eq, IsUtf8}
use Rattle.std.specs.Ordering.{nat_cmp}
use Rattle.std.specs.Cmp.Lexicographic.{slice_cmp}
use Rattle.std.specs.List.{AllByRecursion}
use Rattle.std.specs.List.Sorted.{IsStrictlySortedBy}
use Rattle.std.specs.Map.{keys_of}
use Rattle.std.specs.BTreeMap.{insert_entry}
use Rattle.serde_json.specs.Data.{Data, null, boolean, number, unsigned, string, array, object, Items, no_items, item, Members, no_members, member, put}
use Rattle.serde_json.specs.Find.{as_str, as_bool, of_integer}
use Rattle.serde_json.specs.View.{items_of}
use Rattle.arrow_types.specs.TypeData.{TypeData, FieldData, FieldList, no_fields, and_field, Entries}
use Rattle.arrow_types.specs.TypeData as T
use Rattle.arrow_types.specs.Types.{integer_type, more_fields}
use Rattle.arrow_types.specs.declared.datatype.IntegerType.{IntegerType}
use Rattle.arrow_types.specs.declared.datatype.IntegerType.TheVariants as integer
use Rattle.arrow_types.specs.declared.datatype.IntervalUnit.{IntervalUnit}
use Rattle.arrow_types.specs.declared.datatype.IntervalUnit.TheVariants as interval
use Rattle.arrow_types.specs.declared.datatype.TimeUnit.{TimeUnit}
use Rattle.arrow_types.specs.declared.datatype.TimeUnit.TheVariants as time
use Rattle.arrow_types.specs.declared.datatype.UnionMode.{UnionMode}
use Rattle.arrow_types.specs.declared.datatype.UnionMode.TheVariants as mode
use Rattle.type_json.specs.Values.{traverse, list_of, text_or_null, whole_in, int32_in}

-- ---- from a value: names

unfoldable pub integer_named : List ℕ → Option IntegerType
integer_named s =
    if bytes_eq s (codes "int8") then Some integer.Int8
    else (if bytes_eq s (codes "int16") then Some integer.Int16
    else (if bytes_eq s (codes "int32") then Some integer.Int32
    else (if bytes_eq s (codes "int64") then Some integer.Int64
    else (if bytes_eq s (codes "int128") then Some integer.Int128
    else (if bytes_eq s (codes "uint8") then Some integer.UInt8
    else (if bytes_eq s (codes "uint16") then Some integer.UInt16
    else (if bytes_eq s (codes "uint32") then Some integer.UInt32
    else (if bytes_eq s (codes "uint64") then Some integer.UInt64 else None))))))))

unfoldable pub view_named : List ℕ → Option TypeData
view_named s =
    if bytes_eq s (codes "binary_view") then Some T.binary_view
    else (if bytes_eq s (codes "utf8_view") then Some T.utf8_view else None)

unfoldable pub text_named : List ℕ → Option TypeData
text_named s =
    if bytes_eq s (codes "utf8") then Some T.utf8
    else (if bytes_eq s (codes "large_utf8") then Some T.large_utf8 else view_named s)

unfoldable pub bytes_named : List ℕ → Option TypeData
bytes_named s =
    if bytes_eq s (codes "binary") then Some T.binary
    else (if bytes_eq s (codes "large_binary") then Some T.large_binary else text_named s)

unfoldable pub plain_named : List ℕ → Option TypeData
plain_named s =
    if bytes_eq s (codes "null") then Some T.null
    else (if bytes_eq s (codes "boolean") then Some T.boolean
    else (if bytes_eq s (codes "date32") then Some T.date32
    else (if bytes_eq s (codes "date64") then Some T.date64 else bytes_named s)))

abbrev pub integer_or : Option TypeData → Option IntegerType → Option TypeData
integer_or o None = o
integer_or o (Some i) = Some (integer_type i)

-- the type with no parts that a name spells
unfoldable pub named : List ℕ → Option TypeData
named s = integer_or (plain_named s) (integer_named s)

unfoldable pub unit_in : Data → Option TimeUnit
unit_in d = option_and_then (λ s.
    if bytes_eq s (codes "s") then Some time.Second
    else (if bytes_eq s (codes "ms") then Some time.Millisecond
    else (if bytes_eq s (codes "us") then Some time.Microsecond
    else (if bytes_eq s (codes "ns") then Some time.Nanosecond else None)))) (as_str d)

unfoldable pub interval_in : Data → Option IntervalUnit
interval_in d = option_and_then (λ s.
    if bytes_eq s (codes "year_month") then Some interval.YearMonth
    else (if bytes_eq s (codes "day_time") then Some interval.DayTime
    else (if bytes_eq s (codes "month_day_nano") then Some interval.MonthDayNano else None))) (as_str d)

unfoldable pub mode_in : Data → Option UnionMode
mode_in d = option_and_then (λ s.
    if bytes_eq s (codes "dense") then Some mode.Dense
    else (if bytes_eq s (codes "sparse") then Some mode.Sparse else None)) (as_str d)

unfoldable pub integer_in : Data → Option IntegerType
integer_in d = option_and_then integer_named (as_str d)

-- ---- from a value: parts

abbrev pub ids_list : Items → Option (Option (List ℤ))
ids_list ds = option_map (λ zs. Some zs) (traverse int32_in (list_of ds))

-- null, or the ids of a union
abbrev pub ids_in : Data → Option (Option (List ℤ))
ids_in null = Some None
ids_in (boolean b) = None
ids_in (number n) = None
ids_in (string s) = None
ids_in (array ds) = ids_list ds
ids_in (object ms) = None

-- the entries with the text of each member put at its key
abbrev pub entries_in : Members → Entries → Option Entries
entries_in no_members found = Some found
entries_in (member k d ms) found = option_and_then (λ s. entries_in ms (insert_entry (slice_cmp nat_cmp) found k s)) (as_str d)

-- null, or a map of texts
abbrev pub metadata_in : Data → Option (Option Entries)
metadata_in null = Some None
metadata_in (boolean b) = None
metadata_in (number n) = None
metadata_in (string s) = None
metadata_in (array ds) = None
metadata_in (object ms) = option_map (λ es. Some es) (entries_in ms [])

-- a field of these parts
unfoldable pub field_from : Data → Option TypeData → Data → Data → Option FieldData
field_from name type nullable metadata =
    option_and_then (λ n. option_and_then (λ t. option_and_then (λ b. option_map (λ m. T.field n t b m) (metadata_in metadata)) (as_bool nullable)) type) (as_str name)

-- ---- from a value: types of two, three and four items

unfoldable pub flat_two : List ℕ → Data → Option TypeData
flat_two kind d =
    if bytes_eq kind (codes "time32") then option_map (λ u. T.time32 u) (unit_in d)
    else (if bytes_eq kind (codes "time64") then option_map (λ u. T.time64 u) (unit_in d)
    else (if bytes_eq kind (codes "duration") then option_map (λ u. T.duration u) (unit_in d)
    else (if bytes_eq kind (codes "interval") then option_map (λ i. T.interval i) (interval_in d)
    else (if bytes_eq kind (codes "fixed_size_binary") then option_map (λ n. T.fixed_size_binary n) (whole_in d) else None))))

-- the second item is d, and spells the field f or the fields fs, where it spells any
unfoldable pub of_two : List ℕ → Data → Option FieldData → Option FieldList → Option TypeData
of_two kind d f fs =
    if bytes_eq kind (codes "list") then option_map (λ g. T.list g) f
    else (if bytes_eq kind (codes "large_list") then option_map (λ g. T.large_list g) f
    else (if bytes_eq kind (codes "struct") then option_map (λ gs. T.struct gs) fs else flat_two kind d))

unfoldable pub timestamp_from : Data → Data → Option TypeData
timestamp_from unit zone = option_and_then (λ u. option_map (λ z. T.timestamp u z) (text_or_null zone)) (unit_in unit)

unfoldable pub decimal_from : Data → Data → Option TypeData
decimal_from precision scale = option_and_then (λ p. option_map (λ s. T.decimal p s) (whole_in scale)) (whole_in precision)

unfoldable pub of_three : List ℕ → Data → Option FieldData → Data → Option TypeData
of_three kind d f e =
    if bytes_eq kind (codes "fixed_size_list") then option_and_then (λ g. option_map (λ n. T.fixed_size_list g n) (whole_in e)) f
    else (if bytes_eq kind (codes "map") then option_and_then (λ g. option_map (λ b. T.map g b) (as_bool e)) f
    else (if bytes_eq kind (codes "timestamp") then timestamp_from d e
    else (if bytes_eq kind (codes "decimal") then decimal_from d e else None)))

unfoldable pub union_from : Data → Data → Option FieldList → Option TypeData
union_from mode ids fields = option_and_then (λ m. option_and_then (λ is. option_map (λ fs. T.union fs is m) fields) (ids_in ids)) (mode_in mode)

unfoldable pub dictionary_from : Data → Option TypeData → Data → Option TypeData
dictionary_from key type ordered = option_and_then (λ k. option_and_then (λ t. option_map (λ b. T.dictionary k t b) (as_bool ordered)) type) (integer_in key)

unfoldable pub extension_from : Data → Option TypeData → Data → Option TypeData
extension_from name type metadata = option_and_then (λ n. option_and_then (λ t. option_map (λ m. T.extension n t m) (text_or_null metadata)) type) (as_str name)

-- the third item spells the type t, and the fourth the fields fs, where they spell any
unfoldable pub of_four : List ℕ → Data → Data → Option TypeData → Data → Option FieldList → Option TypeData
of_four kind d e t g fs =
    if bytes_eq kind (codes "union") then union_from d e fs
    else (if bytes_eq kind (codes "dictionary") then dictionary_from d t g
    else (if bytes_eq kind (codes "extension") then extension_from d t g else None))

-- ---- from a value: the type

-- Nothing where the value spells no type.
abbrev mutual
  pub type_in : Data → Option TypeData
  type_in null = None
  type_in (boolean b) = None
  type_in (number n) = None
  type_in (string s) = named s
  type_in (array (item a (item b no_items))) = option_and_then (λ k. of_two k b (field_in b) (fields_in b)) (as_str a)
  type_in (array (item a (item b (item c no_items)))) = option_and_then (λ k. of_three k b (field_in b) c) (as_str a)
  type_in (array (item a (item b (item c (item d no_items))))) = option_and_then (λ k. of_four k b c (type_in c) d (fields_in d)) (as_str a)
  type_in (array _) = None
  type_in (object ms) = None

  pub field_in : Data → Option FieldData
  field_in (array (item a (item b (item c (item d no_items))))) = field_from a (type_in b) c d
  field_in _ = None

  pub fields_in : Data → Option FieldList
  fields_in (array ds) = fields_list ds
  fields_in _ = None

  pub fields_list : Items → Option FieldList
  fields_list no_items = Some no_fields
  fields_list (item d ds) = more_fields (field_in d) (fields_list ds)

-- the types of arrays of two, three and four items, a union, a dictionary and an extension by their items, and a field by its
abbrev pub two_in : Data → Data → Option TypeData
two_in a b = option_and_then (λ k. of_two k b (field_in b) (fields_in b)) (as_str a)

abbrev pub three_in : Data → Data → Data → Option TypeData
three_in a b c = option_and_then (λ k. of_three k b (field_in b) c) (as_str a)

abbrev pub four_in : Data → Data → Data → Data → Option TypeData
four_in a b c d = option_and_then (λ k. of_four k b c (type_in c) d (fields_in d)) (as_str a)

abbrev pub field_parts : Data → Data → Data → Data → Option FieldData
field_parts a b c d = field_from a (type_in b) c d

-- ---- to a value

abbrev pub integer_name : IntegerType → List ℕ
integer_name integer.Int8 = codes "int8"
integer_name integer.Int16 = codes "int16"
integer_name integer.Int32 = codes "int32"
integer_name integer.Int64 = codes "int64"
integer_name integer.Int128 = codes "int128"
integer_name integer.UInt8 = codes "uint8"
integer_name integer.UInt16 = codes "uint16"
integer_name integer.UInt32 = codes "uint32"
integer_name integer.UInt64 = codes "uint64"

abbrev pub unit_name : TimeUnit → List ℕ
unit_name time.Second = codes "s"
unit_name time.Millisecond = codes "ms"
unit_name time.Microsecond = codes "us"
unit_name time.Nanosecond = codes "ns"

abbrev pub interval_name : IntervalUnit → List ℕ
interval_name interval.YearMonth = codes "year_month"
interval_name interval.DayTime = codes "day_time"
interval_name interval.MonthDayNano = codes "month_day_nano"

abbrev pub mode_name : UnionMode → List ℕ
mode_name mode.Dense = codes "dense"
mode_name mode.Sparse = codes "sparse"

abbrev pub text_value : Option (List ℕ) → Data
text_value None = null
text_value (Some s) = string s

abbrev pub whole_value : ℕ → Data
whole_value n = number (unsigned n)

abbrev pub ids_value : Option (List ℤ) → Data
ids_value None = null
ids_value (Some zs) = array (items_of (map (λ z. number (of_integer z)) zs))

-- the members with each text put at its key
abbrev pub with_entries : Entries → Members → Members
with_entries [] ms = ms
with_entries (e ∷ es) ms = with_entries es (put e.0 (string e.1) ms)

abbrev pub metadata_value : Option Entries → Data
metadata_value None = null
metadata_value (Some es) = object (with_entries es no_members)

abbrev pub two : List ℕ → Data → Data
two kind a = array (item (string kind) (item a no_items))

abbrev pub three : List ℕ → Data → Data → Data
three kind a b = array (item (string kind) (item a (item b no_items)))

abbrev pub four : List ℕ → Data → Data → Data → Data
four kind a b c = array (item (string kind) (item a (item b (item c no_items))))

-- The spelling of a type, null where it has none.
abbrev mutual
  pub type_value : TypeData → Data
  type_value T.null = string (codes "null")
  type_value T.boolean = string (codes "boolean")
  type_value T.int8 = string (codes "int8")
  type_value T.int16 = string (codes "int16")
  type_value T.int32 = string (codes "int32")
  type_value T.int64 = string (codes "int64")
  type_value T.int128 = string (codes "int128")
  type_value T.uint8 = string (codes "uint8")
  type_value T.uint16 = string (codes "uint16")
  type_value T.uint32 = string (codes "uint32")
  type_value T.uint64 = string (codes "uint64")
  type_value T.float16 = null
  type_value T.float32 = null
  type_value T.float64 = null
  type_value (T.timestamp u z) = three (codes "timestamp") (string (unit_name u)) (text_value z)
  type_value T.date32 = string (codes "date32")
  type_value T.date64 = string (codes "date64")
  type_value (T.time32 u) = two (codes "time32") (string (unit_name u))
  type_value (T.time64 u) = two (codes "time64") (string (unit_name u))
  type_value (T.duration u) = two (codes "duration") (string (unit_name u))
  type_value (T.interval i) = two (codes "interval") (string (interval_name i))
  type_value T.binary = string (codes "binary")
  type_value (T.fixed_size_binary n) = two (codes "fixed_size_binary") (whole_value n)
  type_value T.large_binary = string (codes "large_binary")
  type_value T.utf8 = string (codes "utf8")
  type_value T.large_utf8 = string (codes "large_utf8")
  type_value T.binary_view = string (codes "binary_view")
  type_value T.utf8_view = string (codes "utf8_view")
  type_value (T.list f) = two (codes "list") (field_value f)
  type_value (T.large_list f) = two (codes "large_list") (field_value f)
  type_value (T.fixed_size_list f n) = three (codes "fixed_size_list") (field_value f) (whole_value n)
  type_value (T.struct fs) = two (codes "struct") (array (fields_value fs))
  type_value (T.map f o) = three (codes "map") (field_value f) (boolean o)
  type_value (T.union fs is m) = four (codes "union") (string (mode_name m)) (ids_value is) (array (fields_value fs))
  type_value (T.dictionary k t o) = four (codes "dictionary") (string (integer_name k)) (type_value t) (boolean o)
  type_value (T.decimal p s) = three (codes "decimal") (whole_value p) (whole_value s)
  type_value (T.decimal256 p s) = null
  type_value (T.extension n t m) = four (codes "extension") (string n) (type_value t) (text_value m)
  type_value T.unknown = null

  pub field_value : FieldData → Data
  field_value (T.field n t b m) = array (item (string n) (item (type_value t) (item (boolean b) (item (metadata_value m) no_items))))

  pub fields_value : FieldList → Items
  fields_value no_fields = no_items
  fields_value (and_field f fs) = item (field_value f) (fields_value fs)

-- ---- which types have a spelling

abbrev pub IsInt32 : ℤ → Type 0
IsInt32 (pos n) = n < 2 ^ 31
IsInt32 (negsuc n) = n < 2 ^ 31

abbrev pub AreInt32 : Option (List ℤ) → Type 0
AreInt32 None = ⊤
AreInt32 (Some zs) = AllByRecursion IsInt32 zs

-- the keys ascend
abbrev pub IsMap : Option Entries → Type 0
IsMap None = ⊤
IsMap (Some es) = IsStrictlySortedBy (slice_cmp nat_cmp) (keys_of es)

-- No floating-point number, wide decimal or unknown type at any depth; sizes, precisions and scales of 64 bits; ids of 32
-- bits; metadata in the order of its keys.
abbrev mutual
  pub IsSpelled : TypeData → Type 0
  IsSpelled T.float16 = ⊥
  IsSpelled T.float32 = ⊥
  IsSpelled T.float64 = ⊥
  IsSpelled (T.decimal256 p s) = ⊥
  IsSpelled T.unknown = ⊥
  IsSpelled (T.decimal p s) = (p < 2 ^ 64) × (s < 2 ^ 64)
  IsSpelled (T.fixed_size_binary n) = n < 2 ^ 64
  IsSpelled (T.list f) = FieldIsSpelled f
  IsSpelled (T.large_list f) = FieldIsSpelled f
  IsSpelled (T.fixed_size_list f n) = (n < 2 ^ 64) × FieldIsSpelled f
  IsSpelled (T.struct fs) = AreSpelled fs
  IsSpelled (T.map f o) = FieldIsSpelled f
  IsSpelled (T.union fs is m) = AreInt32 is × AreSpelled fs
  IsSpelled (T.dictionary k t o) = IsSpelled t
  IsSpelled (T.extension n t m) = IsSpelled t
  IsSpelled _ = ⊤

  pub FieldIsSpelled : FieldData → Type 0
  FieldIsSpelled (T.field n t b m) = IsSpelled t × IsMap m

  pub AreSpelled : FieldList → Type 0
  AreSpelled no_fields = ⊤
  AreSpelled (and_field f fs) = FieldIsSpelled f × AreSpelled fs

-- ---- which data are a type

abbrev pub IsText : Option (List ℕ) → Type 0
IsText None = ⊤
IsText (Some s) = IsUtf8 s

abbrev pub AreTextEntries : Entries → Type 0
AreTextEntries [] = ⊤
AreTextEntries (e ∷ es) = (IsUtf8 e.0 × IsUtf8 e.1) × AreTextEntries es

abbrev pub EntriesAreTexts : Option Entries → Type 0
EntriesAreTexts None = ⊤
EntriesAreTexts (Some es) = AreTextEntries es

abbrev pub IsMetadata : Option Entries → Type 0
IsMetadata m = IsMap m × EntriesAreTexts m

-- Names, time zones and metadata are UTF-8, the keys of metadata ascend, and the ids of a union have 32 bits, at each depth.
abbrev mutual
  pub IsType : TypeData → Type 0
  IsType (T.timestamp u z) = IsText z
  IsType (T.list f) = IsField f
  IsType (T.large_list f) = IsField f
  IsType (T.fixed_size_list f n) = IsField f
  IsType (T.struct fs) = AreFields fs
  IsType (T.map f o) = IsField f
  IsType (T.union fs is m) = AreInt32 is × AreFields fs
  IsType (T.dictionary k t o) = IsType t
  IsType (T.extension n t m) = (IsUtf8 n × IsText m) × IsType t
  IsType _ = ⊤

  pub IsField : FieldData → Type 0
  IsField (T.field n t b m) = (IsUtf8 n × IsMetadata m) × IsType t

  pub AreFields : FieldList → Type 0
  AreFields no_fields = ⊤
  AreFields (and_field f fs) = IsField f × AreFields fs
