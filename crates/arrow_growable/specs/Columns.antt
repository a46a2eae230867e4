-- The lists of slots of which the children of a canonical layout are made, by the form of its type.
use Rattle.std.specs.Prelude.{ℕ, suc, List, [], ◌∷◌, ◌++◌, map, replicate, flat_map, ⊤}
use Rattle.arrow_types.specs.TypeData.{TypeData, FieldList, no_fields, and_field}
use Rattle.arrow_types.specs.TypeData as T
use Rattle.arrow_types.specs.Select.{select}
use Rattle.arrow_types.specs.declared.datatype.UnionMode.TheVariants.{Dense, Sparse}
use Rattle.arrow_flat.specs.Slots.{Slot, Slots}
use Rattle.arrow_layout.specs.Canon.{canon, items_or, parts_or, first_or, after_first, inner_or, inner_if}
use Rattle.arrow_layout.specs.Forms.{Form, lists_of, fixed_size_lists_of, structs_of, unions_of}
use Rattle.arrow_layout.specs.Layouts.{Layouts, no_layouts, child}
use Rattle.arrow_layout.specs.SlotsOf.{HasSlots, fill, fills}

abbrev pub field_types : FieldList → List TypeData
field_types no_fields = []
field_types (and_field (T.field n t b m) fs) = t ∷ field_types fs

-- The types of the children of a layout of this form that grow with it.
abbrev pub child_types : Form → List TypeData
child_types (lists_of large t) = t ∷ []
child_types (fixed_size_lists_of k t) = t ∷ []
child_types (structs_of fs) = field_types fs
child_types (unions_of mode ids fs) = field_types fs
child_types _ = []

-- The parts of rows, one column for each field.
abbrev pub part_columns : FieldList → List Slots → List (List Slot)
part_columns no_fields rs = []
part_columns (and_field (T.field n t b m) fs) rs = map (first_or (fill t)) rs ∷ part_columns fs (map after_first rs)

-- The slots of sparse unions in the columns of their fields, the first of them field j: fillings where another is selected.
abbrev pub chosen_columns : (ℕ → ℕ) → FieldList → ℕ → List Slot → List (List Slot)
chosen_columns select_field no_fields j s = []
chosen_columns select_field (and_field (T.field n t b m) fs) j s = map (inner_or select_field (fill t) j) s ∷ chosen_columns select_field fs (suc j) s

-- The slots of dense unions in the columns of the fields that they select.
abbrev pub dealt_columns : (ℕ → ℕ) → FieldList → ℕ → List Slot → List (List Slot)
dealt_columns select_field no_fields j s = []
dealt_columns select_field (and_field (T.field n t b m) fs) j s = flat_map (inner_if select_field j) s ∷ dealt_columns select_field fs (suc j) s

abbrev pub columns_by : Form → List Slot → List (List Slot)
columns_by (lists_of large t) s = flat_map (items_or []) s ∷ []
columns_by (fixed_size_lists_of k t) s = flat_map (items_or (replicate k (fill t))) s ∷ []
columns_by (structs_of fs) s = part_columns fs (map (parts_or (fills fs)) s)
columns_by (unions_of Sparse ids fs) s = chosen_columns (select ids) fs 0 s
columns_by (unions_of Dense ids fs) s = dealt_columns (select ids) fs 0 s
columns_by _ s = []

-- The form is one whose children grow with it: neither one without children nor that of dictionaries.
abbrev pub IsNested : Form → Type 0
IsNested (lists_of large t) = ⊤
IsNested (fixed_size_lists_of k t) = ⊤
IsNested (structs_of fs) = ⊤
IsNested (unions_of mode ids fs) = ⊤
IsNested _ = ⊥

-- The canonical layouts of columns.
abbrev pub canon_columns : List TypeData → List (List Slot) → Layouts
canon_columns [] cs = no_layouts
canon_columns (t ∷ ts) [] = no_layouts
canon_columns (t ∷ ts) (c ∷ cs) = child (canon t c) (canon_columns ts cs)

-- Each column has slots of its type.
abbrev pub HaveSlots : List TypeData → List (List Slot) → Type 0
HaveSlots [] [] = ⊤
HaveSlots [] (c ∷ cs) = ⊥
HaveSlots (t ∷ ts) [] = ⊥
HaveSlots (t ∷ ts) (c ∷ cs) = HasSlots t c × HaveSlots ts cs

-- Columns, each with the slots of another list behind it.
abbrev pub joined_columns : List (List Slot) → List (List Slot) → List (List Slot)
joined_columns [] ds = []
joined_columns (c ∷ cs) [] = []
joined_columns (c ∷ cs) (d ∷ ds) = (c ++ d) ∷ joined_columns cs ds
