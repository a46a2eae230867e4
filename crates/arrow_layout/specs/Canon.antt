-- The one canonical layout of a type and a list of its slots.
use Rattle.std.specs.Prelude.{ℕ, suc, ◌+◌, nat_eq, ℤ, pos, Bool, false, cond, List, [], ◌∷◌, ◌++◌, map, length, replicate, Option, Some, None, flat_map}
use Rattle.std.specs.List.{list_any, list_all}
use Rattle.arrow_types.specs.TypeData.{TypeData, FieldList, no_fields, and_field}
use Rattle.arrow_types.specs.TypeData as T
use Rattle.arrow_types.specs.Types.{integer_type}
use Rattle.arrow_types.specs.Select.{select}
use Rattle.arrow_types.specs.declared.datatype.UnionMode.TheVariants.{Dense, Sparse}
use Rattle.arrow_buffers.specs.Bits.{Bits, plain}
use Rattle.arrow_flat.specs.Slots.{Slot, bool, num, bytes, items, parts, chosen, Slots, no_slots, slot, is_valid, slot_eq, list_of_slots}
use Rattle.arrow_flat.specs.Numbers.{zeros}
use Rattle.arrow_flat.specs.Views.{longs}
use Rattle.arrow_flat.specs.Packs.{view_limit, pack, packed_views}
use Rattle.arrow_layout.specs.Forms.{Form, nulls_of, booleans_of, primitives_of, binaries_of, fixed_size_binaries_of, views_of, form_of}
use Rattle.arrow_layout.specs.Layouts.{Layout, nulls, booleans, primitives, binaries, fixed_size_binaries, views, lists, fixed_size_lists, structs, sparse_unions, dense_unions, dictionaries, Layouts, no_layouts, child, retyped}
use Rattle.arrow_layout.specs.SlotsOf.{fill, fills}

-- ---- the parts of a slot, or what stands for them under a null

abbrev pub boolean_of : Slot → Bool
boolean_of (bool b) = b
boolean_of _ = false

abbrev pub numbers_or : List ℤ → Slot → List ℤ
numbers_or d (num zs) = zs
numbers_or d _ = d

abbrev pub bytes_or : List ℕ → Slot → List ℕ
bytes_or d (bytes bs) = bs
bytes_or d _ = d

abbrev pub items_or : List Slot → Slot → List Slot
items_or d (items xs) = list_of_slots xs
items_or d _ = d

abbrev pub parts_or : Slots → Slot → Slots
parts_or d (parts xs) = xs
parts_or d _ = d

abbrev pub first_or : Slot → Slots → Slot
first_or d no_slots = d
first_or d (slot x xs) = x

abbrev pub after_first : Slots → Slots
after_first no_slots = no_slots
after_first (slot x xs) = xs

abbrev pub number_chosen : Slot → ℕ
number_chosen (chosen t x) = t
number_chosen _ = 0

-- The inner slot where the slot selects field j, else the filling.
abbrev pub inner_or : (ℕ → ℕ) → Slot → ℕ → Slot → Slot
inner_or select_field d j (chosen t x) = cond (nat_eq (select_field t) j) x d
inner_or select_field d j _ = d

-- The inner slot where the slot selects field j, else nothing.
abbrev pub inner_if : (ℕ → ℕ) → ℕ → Slot → List Slot
inner_if select_field j (chosen t x) = cond (nat_eq (select_field t) j) (x ∷ []) []
inner_if select_field j _ = []

-- ---- masks, offsets and keys

-- No mask where no slot is null, else a set bit at each slot that isn't.
abbrev pub mask_of : List Slot → Option Bits
mask_of s = cond (list_all is_valid s) None (Some (plain (map is_valid s)))

-- The sums of the lengths up to each, after a start.
abbrev pub sums_from : ℕ → List ℕ → List ℕ
sums_from a [] = []
sums_from a (n ∷ ns) = (a + n) ∷ sums_from (a + n) ns

abbrev pub offsets : List ℕ → List ℤ
offsets ns = pos 0 ∷ map pos (sums_from 0 ns)

-- How many of the positions are i.
abbrev pub occurrences : ℕ → List ℕ → ℕ
occurrences i [] = 0
occurrences i (j ∷ is) = cond (nat_eq j i) (suc (occurrences i is)) (occurrences i is)

-- Of each position how many like it stand before it.
abbrev pub counts_after : List ℕ → List ℕ → List ℕ
counts_after before [] = []
counts_after before (i ∷ is) = occurrences i before ∷ counts_after (before ++ i ∷ []) is

abbrev pub is_among : Slot → List Slot → Bool
is_among x seen = list_any (slot_eq x) seen

-- What was seen, and the slot behind it where it is neither null nor seen.
abbrev pub seen_with : List Slot → Slot → List Slot
seen_with seen x = cond (is_valid x) (cond (is_among x seen) seen (seen ++ x ∷ [])) seen

abbrev pub distinct_after : List Slot → List Slot → List Slot
distinct_after seen [] = seen
distinct_after seen (x ∷ xs) = distinct_after (seen_with seen x) xs

-- The slots that aren't null, each once, in the order of their first appearance.
abbrev pub distinct : List Slot → List Slot
distinct s = distinct_after [] s

-- The place of the first slot that is x.
abbrev pub first_place : Slot → List Slot → ℕ
first_place x [] = 0
first_place x (y ∷ ys) = cond (slot_eq x y) 0 (suc (first_place x ys))

-- The key of a slot among the values, and 0 for a null.
abbrev pub key_in : List Slot → Slot → ℤ
key_in values x = cond (is_valid x) (pos (first_place x values)) (pos 0)

-- ---- the layout

-- Without children: the values, and false, zeros or nothing for a null; long values are packed in slot order.
abbrev pub flat_canon : TypeData → Form → List Slot → Layout
flat_canon t nulls_of s = nulls t (length s)
flat_canon t booleans_of s = booleans t (mask_of s) (plain (map boolean_of s))
flat_canon t (primitives_of p) s = primitives t (mask_of s) (map (numbers_or (zeros p)) s)
flat_canon t (binaries_of large text) s = binaries t (mask_of s) (offsets (map (λ x. length (bytes_or [] x)) s)) (flat_map (bytes_or []) s)
flat_canon t (fixed_size_binaries_of k) s = fixed_size_binaries t (mask_of s) k (length s) (flat_map (bytes_or (replicate k 0)) s)
flat_canon t (views_of text) s = views t (mask_of s) (packed_views view_limit (map (bytes_or []) s)) (pack view_limit (longs (map (bytes_or []) s)))
flat_canon t _ s = nulls t (length s)

-- A list or map over the canonical layout of its items.
abbrev pub list_canon : TypeData → List Slot → Layout → Layout
list_canon t s l = lists t (mask_of s) (offsets (map (λ x. length (items_or [] x)) s)) l

-- A dictionary over the canonical layout of its values.
abbrev pub key_canon : TypeData → TypeData → List Slot → Layout → Layout
key_canon t u s l = dictionaries t u (mask_of s) (map (key_in (distinct s)) s) l

-- The type numbers of a union's slots.
abbrev pub numbers : List Slot → List ℤ
numbers s = map (λ x. pos (number_chosen x)) s

-- The offset of a dense slot is the occurrences of slots before it that select the same field.
abbrev pub dense_offsets : (ℕ → ℕ) → List Slot → List ℤ
dense_offsets select_field s = map pos (counts_after [] (map select_field (map number_chosen s)))

-- The canonical layout: of a list its items joined, of a null as many fillings as a fixed-size list has items; of a struct
-- a child for each field, of fillings at a null; of a sparse union fillings where another field is selected; of a dense
-- union the slots that select the field; of a dictionary the distinct slots.
abbrev mutual
  pub canon : TypeData → List Slot → Layout
  canon (T.list (T.field n t b m)) s = list_canon (T.list (T.field n t b m)) s (canon t (flat_map (items_or []) s))
  canon (T.large_list (T.field n t b m)) s = list_canon (T.large_list (T.field n t b m)) s (canon t (flat_map (items_or []) s))
  canon (T.map (T.field n t b m) o) s = list_canon (T.map (T.field n t b m) o) s (canon t (flat_map (items_or []) s))
  canon (T.fixed_size_list (T.field n t b m) k) s =
      fixed_size_lists (T.fixed_size_list (T.field n t b m) k) (mask_of s) k (length s) (canon t (flat_map (items_or (replicate k (fill t))) s))
  canon (T.struct fs) s = structs (T.struct fs) (mask_of s) (length s) (canon_parts fs (map (parts_or (fills fs)) s))
  canon (T.union fs ids Sparse) s = sparse_unions (T.union fs ids Sparse) 0 (numbers s) (canon_chosen (select ids) fs 0 s)
  canon (T.union fs ids Dense) s = dense_unions (T.union fs ids Dense) 0 (numbers s) (dense_offsets (select ids) s) (canon_dense (select ids) fs 0 s)
  canon (T.dictionary k t o) s = key_canon (T.dictionary k t o) (integer_type k) s (canon t (distinct s))
  canon (T.extension n t m) s = retyped (T.extension n t m) (canon t s)
  canon t s = flat_canon t (form_of t) s

  -- one child for each field, from the rows
  pub canon_parts : FieldList → List Slots → Layouts
  canon_parts no_fields rs = no_layouts
  canon_parts (and_field (T.field n t b m) fs) rs = child (canon t (map (first_or (fill t)) rs)) (canon_parts fs (map after_first rs))

  -- one child for each field, the first of them field j, as long as the union
  pub canon_chosen : (ℕ → ℕ) → FieldList → ℕ → List Slot → Layouts
  canon_chosen select_field no_fields j s = no_layouts
  canon_chosen select_field (and_field (T.field n t b m) fs) j s =
      child (canon t (map (inner_or select_field (fill t) j) s)) (canon_chosen select_field fs (suc j) s)

  -- one child for each field, the first of them field j, of the slots that select it
  pub canon_dense : (ℕ → ℕ) → FieldList → ℕ → List Slot → Layouts
  canon_dense select_field no_fields j s = no_layouts
  canon_dense select_field (and_field (T.field n t b m) fs) j s =
      child (canon t (flat_map (inner_if select_field j) s)) (canon_dense select_field fs (suc j) s)
