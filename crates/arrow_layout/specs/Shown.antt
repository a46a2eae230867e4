-- The text of a slot, and the debug text of a column.
use Rattle.std.specs.Prelude.{ℕ, zero, suc, Bool, true, false, cond, ℤ, List, [], ◌∷◌, ◌++◌, map, codes, decimal}
use Rattle.std.specs.Fmt.{signed_decimal}
use Rattle.arrow_types.specs.TypeData.{TypeData, FieldList, no_fields, and_field}
use Rattle.arrow_types.specs.TypeData as T
use Rattle.arrow_types.specs.Select.{select}
use Rattle.arrow_types.specs.declared.datatype.PrimitiveType.{PrimitiveType}
use Rattle.arrow_types.specs.declared.datatype.PrimitiveType.TheVariants as primitive
use Rattle.arrow_flat.specs.Slots.{Slot, null, bool, num, bytes, items, parts, chosen, Slots, no_slots, slot, list_of_slots}
use Rattle.arrow_layout.specs.Forms.{Form, nulls_of, booleans_of, primitives_of, binaries_of, fixed_size_binaries_of, views_of, lists_of, fixed_size_lists_of, structs_of, unions_of, dictionaries_of, no_form, form_of}
use Rattle.arrow_layout.specs.Layouts.{Layout, nulls, type_of}
use Rattle.arrow_layout.specs.Denote.{denote}

-- The texts with a comma and a space between each two.
abbrev pub joined_after : List ℕ → List (List ℕ) → List ℕ
joined_after text [] = text
joined_after text (next ∷ texts) = joined_after (text ++ (codes ", " ++ next)) texts

abbrev pub comma_separated : List (List ℕ) → List ℕ
comma_separated [] = []
comma_separated (text ∷ texts) = joined_after text texts

abbrev pub bracketed : List (List ℕ) → List ℕ
bracketed texts = codes "[" ++ (comma_separated texts ++ codes "]")

abbrev pub braced : List (List ℕ) → List ℕ
braced texts = codes "{" ++ (comma_separated texts ++ codes "}")

-- The numbers of a value with a unit behind each: days and milliseconds; months, days and nanoseconds; else the bare number.
abbrev pub with_units : List (List ℕ) → List ℤ → List ℕ
with_units units [] = []
with_units [] (z ∷ zs) = signed_decimal z ++ with_units [] zs
with_units (u ∷ units) (z ∷ zs) = signed_decimal z ++ (u ++ with_units units zs)

abbrev pub units_of : PrimitiveType → List (List ℕ)
units_of primitive.DaysMs = codes "d" ∷ codes "ms" ∷ []
units_of primitive.MonthDayNano = codes "m" ∷ codes "d" ∷ codes "ns" ∷ []
units_of _ = []

-- Text stands as it is, bytes as their numbers.
abbrev pub bytes_shown : Bool → List ℕ → List ℕ
bytes_shown true bs = bs
bytes_shown false bs = bracketed (map decimal bs)

-- ---- the text of each kind of slot, from those of its parts; other slots have none

abbrev pub boolean_shown : Slot → List ℕ
boolean_shown (bool b) = cond b (codes "true") (codes "false")
boolean_shown _ = []

abbrev pub number_shown : PrimitiveType → Slot → List ℕ
number_shown p (num zs) = with_units (units_of p) zs
number_shown p _ = []

abbrev pub binary_shown : Bool → Slot → List ℕ
binary_shown text (bytes bs) = bytes_shown text bs
binary_shown text _ = []

abbrev pub flat_shown : Form → Slot → List ℕ
flat_shown booleans_of = boolean_shown
flat_shown (primitives_of p) = number_shown p
flat_shown (binaries_of large text) = binary_shown text
flat_shown (fixed_size_binaries_of k) = binary_shown false
flat_shown (views_of text) = binary_shown text
flat_shown _ = λ x. []

abbrev pub items_shown : (Slot → List ℕ) → Slot → List ℕ
items_shown text (items xs) = bracketed (map text (list_of_slots xs))
items_shown text _ = []

abbrev pub parts_shown : (Slots → List (List ℕ)) → Slot → List ℕ
parts_shown texts (parts xs) = braced (texts xs)
parts_shown texts _ = []

abbrev pub chosen_shown : (ℕ → Slot → List ℕ) → Slot → List ℕ
chosen_shown text (chosen t x) = text t x
chosen_shown text _ = []

-- A null has the null text.
abbrev pub or_null : List ℕ → (Slot → List ℕ) → Slot → List ℕ
or_null none text null = none
or_null none text x = text x

-- The name of a field and the text of its part.
abbrev pub named_part : List ℕ → (Slot → List ℕ) → (Slots → List (List ℕ)) → Slots → List (List ℕ)
named_part name text texts no_slots = []
named_part name text texts (slot x xs) = (name ++ (codes ": " ++ text x)) ∷ texts xs

-- The text of the field at the position.
abbrev pub part_at : (Slot → List ℕ) → (ℕ → Slot → List ℕ) → ℕ → Slot → List ℕ
part_at text texts zero x = text x
part_at text texts (suc i) x = texts i x

abbrev mutual
  -- The text of a slot of the type, with the text of a null.
  pub shown : List ℕ → TypeData → Slot → List ℕ
  shown none (T.list (T.field n t b m)) = or_null none (items_shown (shown none t))
  shown none (T.large_list (T.field n t b m)) = or_null none (items_shown (shown none t))
  shown none (T.map (T.field n t b m) o) = or_null none (items_shown (shown none t))
  shown none (T.fixed_size_list (T.field n t b m) k) = or_null none (items_shown (shown none t))
  shown none (T.struct fs) = or_null none (parts_shown (fields_shown none fs))
  shown none (T.union fs ids mode) = chosen_shown (λ t x. field_shown none fs (select ids t) x)
  shown none (T.dictionary k t o) = or_null none (shown none t)
  shown none (T.extension n t m) = shown none t
  shown none t = or_null none (flat_shown (form_of t))

  -- one text for each field
  pub fields_shown : List ℕ → FieldList → Slots → List (List ℕ)
  fields_shown none no_fields = λ xs. []
  fields_shown none (and_field (T.field n t b m) fs) = named_part n (shown none t) (fields_shown none fs)

  -- the text of the field at the position
  pub field_shown : List ℕ → FieldList → ℕ → Slot → List ℕ
  field_shown none no_fields = λ i x. []
  field_shown none (and_field (T.field n t b m) fs) = part_at (shown none t) (field_shown none fs)

-- ---- debug text

abbrev pub primitive_name : PrimitiveType → List ℕ
primitive_name primitive.Int8 = codes "Int8"
primitive_name primitive.Int16 = codes "Int16"
primitive_name primitive.Int32 = codes "Int32"
primitive_name primitive.Int64 = codes "Int64"
primitive_name primitive.Int128 = codes "Int128"
primitive_name primitive.UInt8 = codes "UInt8"
primitive_name primitive.UInt16 = codes "UInt16"
primitive_name primitive.UInt32 = codes "UInt32"
primitive_name primitive.UInt64 = codes "UInt64"
primitive_name primitive.DaysMs = codes "DaysMs"
primitive_name primitive.MonthDayNano = codes "MonthDayNano"
-- of the others there are no columns
primitive_name _ = []

-- A map is laid out as a list, with a head of its own.
abbrev pub list_head : TypeData → List ℕ
list_head (T.map f o) = codes "MapArray"
list_head (T.extension n t m) = list_head t
list_head _ = codes "ListArray"

abbrev pub binary_head : Bool → Bool → List ℕ
binary_head false false = codes "Binary"
binary_head true false = codes "LargeBinary"
binary_head false true = codes "Utf8"
binary_head true true = codes "LargeUtf8"

-- What stands before the slots.
abbrev pub head_by : TypeData → Form → List ℕ
head_by t nulls_of = codes "NullArray"
head_by t booleans_of = codes "Boolean"
head_by t (primitives_of p) = primitive_name p
head_by t (binaries_of large text) = binary_head large text
head_by t (fixed_size_binaries_of k) = codes "FixedSizeBinary"
head_by t (views_of text) = cond text (codes "Utf8View") (codes "BinaryView")
head_by t (lists_of large u) = cond large (codes "LargeListArray") (list_head t)
head_by t (fixed_size_lists_of k u) = codes "FixedSizeListArray"
head_by t (structs_of fs) = codes "StructArray"
head_by t (unions_of mode ids fs) = codes "UnionArray"
head_by t (dictionaries_of k u) = codes "DictionaryArray"
head_by t no_form = []

-- The head and the slots; of a null array the head and the count.
abbrev pub debug_text : Layout → List ℕ
debug_text (nulls t n) = codes "NullArray(" ++ (decimal n ++ codes ")")
debug_text l = head_by (type_of l) (form_of (type_of l)) ++ bracketed (map (shown (codes "None") (type_of l)) (denote l))
