-- What an array with children has beside its mask and its children, and the arrays that they make together.
use Rattle.std.specs.Prelude.{◌≡◌, ℕ, pred, ◌^◌, ◌<◌, Bool, true, false, List, [], ◌∷◌, length, map, drop, flat_map, replicate, Option, None, ⊤}
use Rattle.std.specs.List.{AllByRecursion}
use Rattle.arrow_types.specs.Carried.{IsBelow, count_fields}
use Rattle.arrow_types.specs.Select.{select, nat_of}
use Rattle.arrow_types.specs.TypeData.{TypeData}
use Rattle.arrow_types.specs.TypeData as T
use Rattle.arrow_types.specs.declared.datatype.PhysicalType.{PhysicalType}
use Rattle.arrow_types.specs.declared.datatype.PhysicalType.TheVariants as physical
use Rattle.arrow_types.specs.declared.datatype.UnionMode.TheVariants.{Dense, Sparse}
use Rattle.arrow_buffers.specs.Bits.{Bits}
use Rattle.arrow_flat.specs.Slots.{Slot, parts, Slots, no_slots}
use Rattle.arrow_layout.specs.Canon.{dense_offsets, items_or, number_chosen, numbers, offsets}
use Rattle.arrow_layout.specs.Denote.{dense_slots, fixed_list_slots, list_slots, sparse_slots, with_column}
use Rattle.arrow_layout.specs.Forms.{Form, lists_of, fixed_size_lists_of, structs_of, unions_of, form_of, ids_by, offset_limit}
use Rattle.arrow_layout.specs.Layouts.{Layout, nulls, lists, fixed_size_lists, structs, sparse_unions, dense_unions, Layouts, no_layouts, child}
use Rattle.arrow_items.specs.Dealt.{AreCounts}
use Rattle.arrow_growable.specs.declared.parts.NestedParts.{NestedParts}
use Rattle.arrow_growable.specs.declared.parts.NestedParts.TheVariants as parts_of

-- ---- layouts

abbrev pub first_layout : Layouts → Layout
first_layout no_layouts = nulls T.null 0
first_layout (child l ls) = l

-- The layout of these parts over children; a union has no mask.
abbrev pub layout_with : TypeData → Option Bits → NestedParts → Layouts → Layout
layout_with t m (parts_of.List os) ls = lists t m (map (λ o. o) os) (first_layout ls)
layout_with t m (parts_of.LargeList os) ls = lists t m (map (λ o. o) os) (first_layout ls)
layout_with t m (parts_of.Map os) ls = lists t m (map (λ o. o) os) (first_layout ls)
layout_with t m (parts_of.FixedSizeList k n) ls = fixed_size_lists t m k n (first_layout ls)
layout_with t m (parts_of.Struct n) ls = structs t m n ls
layout_with t m (parts_of.SparseUnion ts) ls = sparse_unions t 0 ts.items ls
layout_with t m (parts_of.DenseUnion ts os cs) ls = dense_unions t 0 ts.items os.items ls

abbrev pub parts_physical : NestedParts → PhysicalType
parts_physical (parts_of.List os) = physical.List
parts_physical (parts_of.LargeList os) = physical.LargeList
parts_physical (parts_of.Map os) = physical.Map
parts_physical (parts_of.FixedSizeList k n) = physical.FixedSizeList
parts_physical (parts_of.Struct n) = physical.Struct
parts_physical (parts_of.SparseUnion ts) = physical.Union
parts_physical (parts_of.DenseUnion ts os cs) = physical.Union

-- ---- slots

abbrev pub first_column : List (List Slot) → List Slot
first_column [] = []
first_column (c ∷ cs) = c

-- n rows of one slot from each column
abbrev pub rows_in : ℕ → List (List Slot) → List Slots
rows_in n [] = replicate n no_slots
rows_in n (c ∷ cs) = with_column c (rows_in n cs)

-- The slots of these parts over columns, with the mask left aside.
abbrev pub slots_with : TypeData → NestedParts → List (List Slot) → List Slot
slots_with t (parts_of.List os) cs = list_slots (map (λ o. o) os) (first_column cs)
slots_with t (parts_of.LargeList os) cs = list_slots (map (λ o. o) os) (first_column cs)
slots_with t (parts_of.Map os) cs = list_slots (map (λ o. o) os) (first_column cs)
slots_with t (parts_of.FixedSizeList k n) cs = fixed_list_slots k n (first_column cs)
slots_with t (parts_of.Struct n) cs = map parts (rows_in n cs)
slots_with t (parts_of.SparseUnion ts) cs = sparse_slots (select (ids_by (form_of t))) (map nat_of ts.items) (map (drop 0) cs)
slots_with t (parts_of.DenseUnion ts os ns) cs = dense_slots (select (ids_by (form_of t))) (map nat_of ts.items) (map nat_of os.items) cs

-- The mask, where these parts may stand under one.
abbrev pub mask_with : {M : Type 0} → NestedParts → Option M → Option M
mask_with (parts_of.SparseUnion ts) m = None
mask_with (parts_of.DenseUnion ts os ns) m = None
mask_with _ m = m

-- ---- the parts of slots

abbrev pub widths : List Slot → List ℕ
widths s = map (λ x. length (items_or [] x)) s

-- The list n times, one after another.
abbrev pub repeated : {A : Type 0} → ℕ → List A → List A
repeated n xs = flat_map (λ ys. ys) (replicate n xs)

-- The fields that slots of a union select.
abbrev pub fields_in : (ℕ → ℕ) → List Slot → List ℕ
fields_in select_field s = map select_field (map number_chosen s)

-- The parts are those of the canonical layout of these slots, of a type of the form.
abbrev pub HasParts : Form → List Slot → NestedParts → Type 0
HasParts (lists_of false t) s (parts_of.List os) = map (λ o. o) os ≡ offsets (widths s)
HasParts (lists_of false t) s (parts_of.Map os) = map (λ o. o) os ≡ offsets (widths s)
HasParts (lists_of true t) s (parts_of.LargeList os) = map (λ o. o) os ≡ offsets (widths s)
HasParts (fixed_size_lists_of k t) s (parts_of.FixedSizeList j n) = (j ≡ k) × (n ≡ length s)
HasParts (structs_of fs) s (parts_of.Struct n) = n ≡ length s
HasParts (unions_of Sparse ids fs) s (parts_of.SparseUnion ts) = ts.items ≡ numbers s
HasParts (unions_of Dense ids fs) s (parts_of.DenseUnion ts os ns) =
    (ts.items ≡ numbers s) × (os.items ≡ dense_offsets (select ids) s) × AreCounts ns.items (fields_in (select ids) s) × (length ns.items ≡ count_fields fs)
HasParts _ s p = ⊥

-- Counts and offsets are in their ranges.
abbrev pub PartsFit : TypeData → NestedParts → Type 0
PartsFit t (parts_of.List os) = (pred (length (map (λ o. o) os)) < 2 ^ 64) × AllByRecursion (IsBelow (offset_limit (form_of t))) (map (λ o. o) os)
PartsFit t (parts_of.LargeList os) = (pred (length (map (λ o. o) os)) < 2 ^ 64) × AllByRecursion (IsBelow (offset_limit (form_of t))) (map (λ o. o) os)
PartsFit t (parts_of.Map os) = (pred (length (map (λ o. o) os)) < 2 ^ 64) × AllByRecursion (IsBelow (offset_limit (form_of t))) (map (λ o. o) os)
PartsFit t (parts_of.FixedSizeList k n) = n < 2 ^ 64
PartsFit t (parts_of.Struct n) = n < 2 ^ 64
PartsFit t (parts_of.SparseUnion ts) = length ts.items < 2 ^ 64
PartsFit t (parts_of.DenseUnion ts os ns) = (length ts.items < 2 ^ 64) × AllByRecursion (IsBelow (2 ^ 31)) os.items

-- ---- kinds

-- The parts are those of layouts of the form.
abbrev pub AreOfForm : Form → NestedParts → Type 0
AreOfForm (lists_of false t) (parts_of.List os) = ⊤
AreOfForm (lists_of false t) (parts_of.Map os) = ⊤
AreOfForm (lists_of true t) (parts_of.LargeList os) = ⊤
AreOfForm (fixed_size_lists_of k t) (parts_of.FixedSizeList j n) = j ≡ k
AreOfForm (structs_of fs) (parts_of.Struct n) = ⊤
AreOfForm (unions_of Sparse ids fs) (parts_of.SparseUnion ts) = ⊤
AreOfForm (unions_of Dense ids fs) (parts_of.DenseUnion ts os ns) = ⊤
AreOfForm _ p = ⊥

abbrev pub IsListKind : PhysicalType → Type 0
IsListKind physical.List = ⊤
IsListKind physical.LargeList = ⊤
IsListKind physical.Map = ⊤
IsListKind _ = ⊥

abbrev pub IsCountedKind : PhysicalType → Type 0
IsCountedKind physical.FixedSizeList = ⊤
IsCountedKind physical.Struct = ⊤
IsCountedKind _ = ⊥

abbrev pub IsNestedKind : PhysicalType → Type 0
IsNestedKind physical.List = ⊤
IsNestedKind physical.LargeList = ⊤
IsNestedKind physical.Map = ⊤
IsNestedKind k = IsCountedKind k
