-- Worked examples: what a layout denotes, and the canonical layout of that.
use Rattle.std.specs.Prelude.{◌≡◌, ℕ, ◌^◌, map, ◌-◌, ℤ, pos, negsuc, Bool, true, false, List, [], ◌∷◌, replicate, Some, None, refl}
use Rattle.std.proofs.Common.{arith}
use Rattle.std.proofs.lemmas.Str.{is_utf8-from_IsUtf8}
use Rattle.std.proofs.lemmas.Bool.{false≢true}
use Rattle.std.specs.Str.{is_utf8, chars}
use Rattle.arrow_types.specs.TypeData.{TypeData, FieldData, no_fields, and_field}
use Rattle.arrow_types.specs.TypeData as T
use Rattle.arrow_types.specs.declared.datatype.IntegerType.TheVariants.{Int8, UInt8}
use Rattle.arrow_types.specs.declared.datatype.IntervalUnit.TheVariants.{DayTime}
use Rattle.arrow_types.specs.declared.datatype.UnionMode.TheVariants.{Dense, Sparse}
use Rattle.arrow_buffers.specs.Bits.{plain}
use Rattle.arrow_flat.specs.Slots.{null, bool, num, bytes, items, parts, chosen, no_slots, slot}
use Rattle.arrow_flat.specs.Views.{long, inline_view}
use Rattle.arrow_layout.specs.Layouts.{Layout, nulls, booleans, primitives, binaries, views, lists, fixed_size_lists, structs, sparse_unions, dense_unions, dictionaries, Layouts, no_layouts, layouts}
use Rattle.arrow_layout.specs.Denote.{denote}
use Rattle.arrow_layout.specs.WellFormed.{WellFormed}
use Rattle.arrow_layout.specs.Canon.{canon}
use Rattle.arrow_layout.specs.Cut.{cut}
use Rattle.arrow_layout.specs.Fits.{Fits, Small}

-- a nullable field of the type, with one byte as its name
abbrev a_field : ℕ → TypeData → FieldData
a_field name t = T.field (name ∷ []) t true None

abbrev numbers_in : List Bool → List (List ℤ) → Layout
numbers_in mask values = primitives T.int32 (Some (plain mask)) values

abbrev numbers : List (List ℤ) → Layout
numbers values = primitives T.int32 None values

abbrev truths : List Bool → Layout
truths bits = booleans T.boolean None (plain bits)

-- a number under a null is written as zero
null_number_denotes : denote (numbers_in (true ∷ false ∷ true ∷ []) ((pos 1 ∷ []) ∷ (pos 7 ∷ []) ∷ (pos 3 ∷ []) ∷ [])) ≡ (num (pos 1 ∷ []) ∷ null ∷ num (pos 3 ∷ []) ∷ [])
null_number_denotes = refl

null_number_canon : canon T.int32 (num (pos 1 ∷ []) ∷ null ∷ num (pos 3 ∷ []) ∷ []) ≡ numbers_in (true ∷ false ∷ true ∷ []) ((pos 1 ∷ []) ∷ (pos 0 ∷ []) ∷ (pos 3 ∷ []) ∷ [])
null_number_canon = refl

-- a mask without an unset bit goes
set_mask_goes : canon T.int32 (denote (numbers_in (true ∷ true ∷ true ∷ []) ((pos 1 ∷ []) ∷ (pos 7 ∷ []) ∷ (pos 3 ∷ []) ∷ []))) ≡ numbers ((pos 1 ∷ []) ∷ (pos 7 ∷ []) ∷ (pos 3 ∷ []) ∷ [])
set_mask_goes = refl

short_mask_is_broken : WellFormed (numbers_in (true ∷ false ∷ []) ((pos 1 ∷ []) ∷ (pos 7 ∷ []) ∷ (pos 3 ∷ []) ∷ [])) → ⊥
short_mask_is_broken w = omega (arith, w.0.mask.0)

-- five booleans from the fourth on
slice_of_booleans : canon T.boolean (denote (cut (truths (true ∷ true ∷ false ∷ true ∷ false ∷ false ∷ true ∷ true ∷ true ∷ [])) 3 5)) ≡ truths (true ∷ false ∷ false ∷ true ∷ true ∷ [])
slice_of_booleans = refl

-- no slots of a struct
empty_struct : canon (T.struct (and_field (a_field 97 T.int32) no_fields)) [] ≡ structs (T.struct (and_field (a_field 97 T.int32) no_fields)) None 0 (layouts (numbers [] ∷ []))
empty_struct = refl

abbrev two_fields : T.FieldList
two_fields = and_field (a_field 97 T.int32) (and_field (a_field 98 T.boolean) no_fields)

abbrev sparse_of_two : Layouts → Layout
sparse_of_two ls = sparse_unions (T.union two_fields None Sparse) 0 (pos 1 ∷ pos 0 ∷ []) ls

-- the slots of a field that isn't selected are its filling
sparse_denotes : denote (sparse_of_two (layouts (numbers ((pos 9 ∷ []) ∷ (pos 8 ∷ []) ∷ []) ∷ truths (true ∷ false ∷ []) ∷ []))) ≡ (chosen 1 (bool true) ∷ chosen 0 (num (pos 8 ∷ [])) ∷ [])
sparse_denotes = refl

sparse_canon : canon (T.union two_fields None Sparse) (chosen 1 (bool true) ∷ chosen 0 (num (pos 8 ∷ [])) ∷ []) ≡ sparse_of_two (layouts (numbers_in (false ∷ true ∷ []) ((pos 0 ∷ []) ∷ (pos 8 ∷ []) ∷ []) ∷ booleans T.boolean (Some (plain (true ∷ false ∷ []))) (plain (true ∷ false ∷ [])) ∷ []))
sparse_canon = refl

abbrev dense_of_two : List ℤ → Layouts → Layout
dense_of_two os ls = dense_unions (T.union two_fields None Dense) 0 (pos 0 ∷ pos 1 ∷ pos 0 ∷ []) os ls

-- a dense union reads the selected child at the offset
dense_denotes : denote (dense_of_two (pos 1 ∷ pos 0 ∷ pos 1 ∷ []) (layouts (numbers ((pos 5 ∷ []) ∷ (pos 6 ∷ []) ∷ []) ∷ truths (true ∷ []) ∷ []))) ≡ (chosen 0 (num (pos 6 ∷ [])) ∷ chosen 1 (bool true) ∷ chosen 0 (num (pos 6 ∷ [])) ∷ [])
dense_denotes = refl

dense_canon : canon (T.union two_fields None Dense) (chosen 0 (num (pos 6 ∷ [])) ∷ chosen 1 (bool true) ∷ chosen 0 (num (pos 6 ∷ [])) ∷ []) ≡ dense_of_two (pos 0 ∷ pos 0 ∷ pos 1 ∷ []) (layouts (numbers ((pos 6 ∷ []) ∷ (pos 6 ∷ []) ∷ []) ∷ truths (true ∷ []) ∷ []))
dense_canon = refl

abbrev texts : List (List ℕ) → Layout
texts values = views T.utf8_view None (map inline_view values) []

abbrev text_keys : List ℤ → Layout → Layout
text_keys ks l = dictionaries (T.dictionary UInt8 T.utf8_view false) T.uint8 None ks l

-- the distinct values in the order of their first use
dictionary_denotes : denote (text_keys (pos 0 ∷ pos 1 ∷ []) (texts ((97 ∷ []) ∷ (98 ∷ []) ∷ []))) ≡ (bytes (97 ∷ []) ∷ bytes (98 ∷ []) ∷ [])
dictionary_denotes = refl

dictionary_canon : canon (T.dictionary UInt8 T.utf8_view false) (bytes (97 ∷ []) ∷ bytes (98 ∷ []) ∷ bytes (97 ∷ []) ∷ []) ≡ text_keys (pos 0 ∷ pos 1 ∷ pos 0 ∷ []) (texts ((97 ∷ []) ∷ (98 ∷ []) ∷ []))
dictionary_canon = refl

abbrev null_lists : List Bool → List ℤ → ℕ → Layout
null_lists mask os n = lists (T.large_list (a_field 105 T.null)) (Some (plain mask)) os (nulls T.null n)

-- a null of a list takes no items
null_lists_canon : canon (T.large_list (a_field 105 T.null)) (null ∷ null ∷ null ∷ []) ≡ null_lists (false ∷ false ∷ false ∷ []) (pos 0 ∷ pos 0 ∷ pos 0 ∷ pos 0 ∷ []) 0
null_lists_canon = refl

long_offsets_do_not_fit : Fits (lists (T.large_list (a_field 105 T.null)) None (pos 0 ∷ pos (2 ^ 63) ∷ []) (nulls T.null (2 ^ 63))) → ⊥
long_offsets_do_not_fit h = omega (arith, h.1.1.0)

abbrev number_keys : List ℤ → Layout → Layout
number_keys ks l = dictionaries (T.dictionary Int8 T.int32 false) T.int8 None ks l

-- a valid key of a null value is a null
null_value_denotes : denote (number_keys (pos 0 ∷ pos 1 ∷ pos 2 ∷ []) (numbers_in (true ∷ false ∷ true ∷ []) ((pos 4 ∷ []) ∷ (pos 0 ∷ []) ∷ (pos 4 ∷ []) ∷ []))) ≡ (num (pos 4 ∷ []) ∷ null ∷ num (pos 4 ∷ []) ∷ [])
null_value_denotes = refl

null_value_canon : canon (T.dictionary Int8 T.int32 false) (num (pos 4 ∷ []) ∷ null ∷ num (pos 4 ∷ []) ∷ []) ≡ dictionaries (T.dictionary Int8 T.int32 false) T.int8 (Some (plain (true ∷ false ∷ true ∷ []))) (pos 0 ∷ pos 0 ∷ pos 0 ∷ []) (numbers ((pos 4 ∷ []) ∷ []))
null_value_canon = refl

wild_key_is_broken : WellFormed (number_keys (pos 2 ∷ []) (numbers ((pos 4 ∷ []) ∷ []))) → ⊥
wild_key_is_broken w = omega (arith, w.3.0)

abbrev empty_lists : Layout
empty_lists = fixed_size_lists (T.fixed_size_list (a_field 105 T.int32) 0) (Some (plain (true ∷ false ∷ true ∷ []))) 0 3 (numbers [])

-- lists of size 0 keep a length of their own
empty_lists_denote : denote empty_lists ≡ (items no_slots ∷ null ∷ items no_slots ∷ [])
empty_lists_denote = refl

empty_lists_canon : canon (T.fixed_size_list (a_field 105 T.int32) 0) (items no_slots ∷ null ∷ items no_slots ∷ []) ≡ empty_lists
empty_lists_canon = refl

-- a struct without fields keeps a length of its own
bare_structs : canon (T.struct no_fields) (parts no_slots ∷ parts no_slots ∷ null ∷ parts no_slots ∷ []) ≡ structs (T.struct no_fields) (Some (plain (true ∷ true ∷ false ∷ true ∷ []))) 4 no_layouts
bare_structs = refl

bare_structs_denote : denote (structs (T.struct no_fields) None 2 no_layouts) ≡ (parts no_slots ∷ parts no_slots ∷ [])
bare_structs_denote = refl

-- as many nulls as a usize can count
most_nulls_fit : Fits (nulls T.null (2 ^ 64 - 1))
most_nulls_fit = omega arith

more_nulls_do_not_fit : Fits (nulls T.null (2 ^ 64)) → ⊥
more_nulls_do_not_fit h = omega (arith, h)

-- equal slots have one value
one_value : canon (T.dictionary Int8 T.int32 false) (num (pos 0 ∷ []) ∷ num (pos 0 ∷ []) ∷ []) ≡ number_keys (pos 0 ∷ pos 0 ∷ []) (numbers ((pos 0 ∷ []) ∷ []))
one_value = refl

too_many_values : Small (number_keys [] (primitives T.int32 None (replicate 129 (pos 0 ∷ [])))) → ⊥
too_many_values h = omega (arith, h.0)

-- a byte that is no text
broken_text : WellFormed (binaries T.utf8 None (pos 0 ∷ pos 1 ∷ []) (255 ∷ [])) → ⊥
unfolding is_utf8 chars
broken_text w = false≢true (is_utf8-from_IsUtf8 (255 ∷ []) w.4.0)

-- the text "a_very_very_long_string_that_is_not_inlinable"
abbrev sentence : List ℕ
sentence = 97 ∷ 95 ∷ 118 ∷ 101 ∷ 114 ∷ 121 ∷ 95 ∷ 118 ∷ 101 ∷ 114 ∷ 121 ∷ 95 ∷ 108 ∷ 111 ∷ 110 ∷ 103 ∷ 95 ∷ 115 ∷ 116 ∷ 114 ∷ 105 ∷ 110 ∷ 103 ∷ 95 ∷ 116 ∷ 104 ∷ 97 ∷ 116 ∷ 95 ∷ 105 ∷ 115 ∷ 95 ∷ 110 ∷ 111 ∷ 116 ∷ 95 ∷ 105 ∷ 110 ∷ 108 ∷ 105 ∷ 110 ∷ 97 ∷ 98 ∷ 108 ∷ 101 ∷ []

abbrev two_texts : ℕ → List ℕ → Layout
two_texts offset buffer = views T.utf8_view None (long 45 (97 ∷ 95 ∷ 118 ∷ 101 ∷ []) 0 offset ∷ inline_view (97 ∷ 98 ∷ 99 ∷ []) ∷ []) (buffer ∷ [])

-- a long value is packed from the start of the first buffer
long_text_denotes : denote (two_texts 2 (0 ∷ 0 ∷ sentence)) ≡ (bytes sentence ∷ bytes (97 ∷ 98 ∷ 99 ∷ []) ∷ [])
long_text_denotes = refl

long_text_canon : canon T.utf8_view (bytes sentence ∷ bytes (97 ∷ 98 ∷ 99 ∷ []) ∷ []) ≡ two_texts 0 sentence
long_text_canon = refl

abbrev with_ids : Layout
with_ids =
    dense_unions (T.union two_fields (Some (pos 5 ∷ pos 7 ∷ [])) Dense) 0 (pos 5 ∷ pos 9 ∷ []) (pos 0 ∷ pos 1 ∷ [])
    (layouts (numbers ((pos 1 ∷ []) ∷ (pos 2 ∷ []) ∷ []) ∷ truths [] ∷ []))

-- a number among no ids selects the first field
no_id_denotes : denote with_ids ≡ (chosen 5 (num (pos 1 ∷ [])) ∷ chosen 9 (num (pos 2 ∷ [])) ∷ [])
no_id_denotes = refl

no_id_canon : canon (T.union two_fields (Some (pos 5 ∷ pos 7 ∷ [])) Dense) (chosen 5 (num (pos 1 ∷ [])) ∷ chosen 9 (num (pos 2 ∷ [])) ∷ []) ≡ with_ids
no_id_canon = refl

abbrev struct_of_one : Layout → Layout
struct_of_one l = structs (T.struct (and_field (a_field 97 T.int32) no_fields)) (Some (plain (true ∷ false ∷ []))) 2 (layouts (l ∷ []))

-- the parts of a null struct are fillings
null_struct_denotes : denote (struct_of_one (numbers ((pos 7 ∷ []) ∷ (pos 8 ∷ []) ∷ []))) ≡ (parts (slot (num (pos 7 ∷ [])) no_slots) ∷ null ∷ [])
null_struct_denotes = refl

null_struct_canon : canon (T.struct (and_field (a_field 97 T.int32) no_fields)) (parts (slot (num (pos 7 ∷ [])) no_slots) ∷ null ∷ []) ≡ struct_of_one (numbers_in (true ∷ false ∷ []) ((pos 7 ∷ []) ∷ (pos 0 ∷ []) ∷ []))
null_struct_canon = refl

abbrev number_lists : List ℤ → Layout → Layout
number_lists os l = lists (T.large_list (a_field 105 T.int32)) (Some (plain (true ∷ false ∷ true ∷ []))) os l

-- the items of a null list are left out
null_list_denotes : denote (number_lists (pos 1 ∷ pos 2 ∷ pos 3 ∷ pos 4 ∷ []) (numbers ((pos 1 ∷ []) ∷ (pos 2 ∷ []) ∷ (pos 3 ∷ []) ∷ (pos 4 ∷ []) ∷ []))) ≡ (items (slot (num (pos 2 ∷ [])) no_slots) ∷ null ∷ items (slot (num (pos 4 ∷ [])) no_slots) ∷ [])
null_list_denotes = refl

null_list_canon : canon (T.large_list (a_field 105 T.int32)) (items (slot (num (pos 2 ∷ [])) no_slots) ∷ null ∷ items (slot (num (pos 4 ∷ [])) no_slots) ∷ []) ≡ number_lists (pos 0 ∷ pos 1 ∷ pos 1 ∷ pos 2 ∷ []) (numbers ((pos 2 ∷ []) ∷ (pos 4 ∷ []) ∷ []))
null_list_canon = refl

-- an int128
minus_one : canon T.int128 (num (negsuc 0 ∷ []) ∷ []) ≡ primitives T.int128 None ((negsuc 0 ∷ []) ∷ [])
minus_one = refl

-- two numbers a value
days_and_milliseconds : canon (T.interval DayTime) (null ∷ num (pos 3 ∷ negsuc 4 ∷ []) ∷ []) ≡ primitives (T.interval DayTime) (Some (plain (false ∷ true ∷ []))) ((pos 0 ∷ pos 0 ∷ []) ∷ (pos 3 ∷ negsuc 4 ∷ []) ∷ [])
days_and_milliseconds = refl
