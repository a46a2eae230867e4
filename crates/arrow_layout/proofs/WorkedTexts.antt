-- Worked examples: the text and the size of columns.
use Rattle.std.specs.Prelude.{◌≡◌, ℤ, pos, negsuc, true, false, List, [], ◌∷◌, Some, None, codes, refl}
use Rattle.std.specs.Fmt.{digits}
use Rattle.arrow_types.specs.TypeData.{FieldData, FieldList, no_fields, and_field}
use Rattle.arrow_types.specs.TypeData as T
use Rattle.arrow_types.specs.declared.datatype.IntegerType.TheVariants.{Int8}
use Rattle.arrow_types.specs.declared.datatype.IntervalUnit.TheVariants.{DayTime}
use Rattle.arrow_buffers.specs.Bits.{plain}
use Rattle.arrow_flat.specs.Slots.{null, bool, num, bytes, items, parts, no_slots, slot}
use Rattle.arrow_layout.specs.Layouts.{Layout, nulls, booleans, primitives, lists, structs, dictionaries, layouts}
use Rattle.arrow_layout.specs.Shown.{shown, debug_text}
use Rattle.arrow_layout.specs.Size.{size_of}
use Rattle.arrow_layout.specs.Nulled.{nulled}
use Rattle.arrow_layout.specs.Paths.{whole_values}

abbrev numbers : List (List ℤ) → Layout
numbers values = primitives T.int32 None values

abbrev two_fields : FieldList
two_fields = and_field (T.field (codes "b") T.boolean false None) (and_field (T.field (codes "c") T.int32 false None) no_fields)

abbrev four_rows : Layout
four_rows =
    structs (T.struct two_fields) None 4
    (layouts (booleans T.boolean None (plain (false ∷ false ∷ true ∷ true ∷ [])) ∷ numbers ((pos 42 ∷ []) ∷ (pos 28 ∷ []) ∷ (pos 19 ∷ []) ∷ (pos 31 ∷ []) ∷ []) ∷ []))

struct_text : shown (codes "null") (T.struct two_fields) (parts (slot (bool true) (slot (num (pos 19 ∷ [])) no_slots))) ≡ codes "{b: true, c: 19}"
unfolding digits
struct_text = refl

struct_size : size_of four_rows ≡ 17
struct_size = refl

abbrev item : FieldData
item = T.field (codes "item") T.int32 true None

abbrev some_lists : Layout
some_lists =
    lists (T.large_list item) (Some (plain (true ∷ false ∷ true ∷ true ∷ []))) (pos 0 ∷ pos 2 ∷ pos 2 ∷ pos 2 ∷ pos 3 ∷ [])
    (primitives T.int32 (Some (plain (true ∷ true ∷ false ∷ []))) ((pos 1 ∷ []) ∷ (pos 2 ∷ []) ∷ (pos 0 ∷ []) ∷ []))

list_text : debug_text some_lists ≡ codes "LargeListArray[[1, 2], None, [], [None]]"
unfolding digits
list_text = refl

null_text : debug_text (nulls T.null 3) ≡ codes "NullArray(3)"
unfolding digits
null_text = refl

list_size : size_of (lists (T.large_list item) None (pos 0 ∷ pos 2 ∷ pos 3 ∷ []) (numbers ((pos 1 ∷ []) ∷ (pos 2 ∷ []) ∷ (pos 3 ∷ []) ∷ []))) ≡ 28
list_size = refl

byte_text : shown (codes "null") T.binary (bytes (1 ∷ 2 ∷ [])) ≡ codes "[1, 2]"
unfolding digits
byte_text = refl

interval_text : shown (codes "null") (T.interval DayTime) (num (pos 3 ∷ negsuc 4 ∷ [])) ≡ codes "3d-5ms"
unfolding digits
interval_text = refl

-- a null becomes a null list, an item without a value the filling of its type
null_to_list : nulled (T.large_list item) T.null null ≡ null
null_to_list = refl

null_items : nulled (T.large_list (T.field (codes "item") (T.large_list item) true None)) (T.large_list (T.field (codes "item") T.null true None)) (items (slot null no_slots)) ≡ items (slot null no_slots)
null_items = refl

-- the values of two dictionaries, joined
joined_values :
    whole_values
    (dictionaries (T.dictionary Int8 T.int32 false) T.int8 None (pos 0 ∷ []) (numbers ((pos 4 ∷ []) ∷ []))
    ∷ dictionaries (T.dictionary Int8 T.int32 false) T.int8 None [] (numbers ((pos 4 ∷ []) ∷ (pos 5 ∷ []) ∷ []))
    ∷ [])
    ≡ (num (pos 4 ∷ []) ∷ num (pos 4 ∷ []) ∷ num (pos 5 ∷ []) ∷ [])
joined_values = refl
