-- What converting a type without values to another makes of a slot.
use Rattle.std.specs.Prelude.{Bool, true, false, cond, List, [], ◌∷◌, map}
use Rattle.arrow_types.specs.TypeData.{TypeData, FieldList, no_fields, and_field}
use Rattle.arrow_types.specs.TypeData as T
use Rattle.arrow_flat.specs.Slots.{Slot, null, items, parts, Slots, no_slots, slot, slots_of, list_of_slots}
use Rattle.arrow_layout.specs.Forms.{Form, nulls_of, lists_of, fixed_size_lists_of, structs_of, form_of}
use Rattle.arrow_layout.specs.SlotsOf.{fill}

abbrev pub has_no_values : Form → Bool
has_no_values nulls_of = true
has_no_values _ = false

-- The type of a list's items.
abbrev pub item_by : Form → TypeData
item_by (lists_of large t) = t
item_by (fixed_size_lists_of k t) = t
item_by _ = T.null

-- The types of a struct's fields.
abbrev pub field_types : FieldList → List TypeData
field_types no_fields = []
field_types (and_field f fs) = T.field_type f ∷ field_types fs

abbrev pub part_types : Form → List TypeData
part_types (structs_of fs) = field_types fs
part_types _ = []

abbrev pub map_items : (Slot → Slot) → Slot → Slot
map_items f (items xs) = items (slots_of (map f (list_of_slots xs)))
map_items f x = x

abbrev pub map_parts : (Slots → Slots) → Slot → Slot
map_parts f (parts xs) = parts (f xs)
map_parts f x = x

-- The part of the first field converted from the first type, and the others from the others.
abbrev pub convert_part : (TypeData → Slot → Slot) → (List TypeData → Slots → Slots) → List TypeData → Slots → Slots
convert_part f g [] xs = no_slots
convert_part f g (s ∷ ss) no_slots = no_slots
convert_part f g (s ∷ ss) (slot x xs) = slot (f s x) (g ss xs)

-- The slot of the type that a slot of the second type becomes: its filling where that one has no values; of a large list,
-- fixed-size list or struct its items or parts, one by one, and a null stays one; of any other type the filling.
abbrev mutual
  pub nulled : TypeData → TypeData → Slot → Slot
  nulled (T.large_list (T.field n t b m)) s x = cond (has_no_values (form_of s)) null (map_items (nulled t (item_by (form_of s))) x)
  nulled (T.fixed_size_list (T.field n t b m) k) s x = cond (has_no_values (form_of s)) null (map_items (nulled t (item_by (form_of s))) x)
  nulled (T.struct fs) s x = cond (has_no_values (form_of s)) null (map_parts (nulled_parts fs (part_types (form_of s))) x)
  nulled t s x = fill t

  pub nulled_parts : FieldList → List TypeData → Slots → Slots
  nulled_parts no_fields = λ ss xs. no_slots
  nulled_parts (and_field (T.field n t b m) fs) = convert_part (nulled t) (nulled_parts fs)
