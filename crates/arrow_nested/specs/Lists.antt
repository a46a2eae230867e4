-- Lists, large lists and maps: their parts, the layouts of their values, and why parts are refused.
use Rattle.std.specs.Prelude.{◌≡◌, ℕ, ◌-◌, ◌≤◌, Bool, true, false, List, [], ◌∷◌, map, take, drop, Option, Some, None, option_map, ⊤}
use Rattle.std.specs.List.{AllByRecursion, flat_map}
use Rattle.std.specs.Option.{option_to_list}
use Rattle.arrow_buffers.specs.Offsets.{end_of}
use Rattle.arrow_flat.specs.Primitives.{MaskHasLength, masked_values}
use Rattle.arrow_flat.specs.Slots.{Slot, items, slots_of}
use Rattle.arrow_layout.specs.Cut.{cut}
use Rattle.arrow_layout.specs.Denote.{denote, validity_of}
use Rattle.arrow_layout.specs.Layouts.{Layout, lists, length_of, type_of}
use Rattle.arrow_meaning.specs.Nodes.{IsStoredAs, list_offsets}
use Rattle.arrow_types.specs.Carried.{IsPair}
use Rattle.arrow_types.specs.Select.{nat_of}
use Rattle.arrow_types.specs.TypeData.{TypeData, FieldData, field_type}
use Rattle.arrow_types.specs.TypeData as T
use Rattle.arrow_types.specs.declared.datatype.PhysicalType.{PhysicalType}
use Rattle.arrow_types.specs.declared.datatype.PhysicalType.TheVariants as physical
use Rattle.arrow_types.specs.declared.error.PolarsError.{PolarsError}
use Rattle.arrow_types.specs.declared.error.PolarsError.TheVariants.{ComputeError, OutOfMemory}
use Rattle.arrow_types.specs.declared.error.Reason.{Reason}
use Rattle.arrow_types.specs.declared.error.Reason.TheVariants.{OffsetPastValues, MaskLength, WrongLogicalType, ChildTypeDiffers, EntriesNotPair}

-- ---- types

-- The field of the items that a type of lists or maps declares, through extensions.
abbrev pub child_field : TypeData → Option FieldData
child_field (T.list f) = Some f
child_field (T.large_list f) = Some f
child_field (T.fixed_size_list f k) = Some f
child_field (T.map f o) = Some f
child_field (T.extension n t m) = child_field t
child_field _ = None

-- The whole type that is declared for the items.
abbrev pub child_type : TypeData → Option TypeData
child_type t = option_map field_type (child_field t)

-- Lists of the items of a field, by whether the offsets are large.
abbrev pub list_type : Bool → FieldData → TypeData
list_type false f = T.list f
list_type true f = T.large_list f

abbrev pub IsPairIfAny : Option TypeData → Type 0
IsPairIfAny None = ⊥
IsPairIfAny (Some t) = IsPair t

-- The entries of a map are declared a struct of two fields, with no extension around it.
abbrev pub DeclaresPair : TypeData → Type 0
DeclaresPair t = IsPairIfAny (child_type t)

-- ---- parts

abbrev pub IsLists : Layout → Type 0
IsLists (lists t m os l) = ⊤
IsLists _ = ⊥

-- The layout of the items of all slots.
abbrev pub list_child : Layout → Layout
list_child (lists t m os l) = l
list_child l = l

-- The part of a layout from each offset to the next.
abbrev pub parts_from : ℕ → List ℕ → Layout → List Layout
parts_from a [] l = []
parts_from a (b ∷ os) l = cut l a (b - a) ∷ parts_from b os l

abbrev pub parts_between : List ℕ → Layout → List Layout
parts_between [] l = []
parts_between (a ∷ os) l = parts_from a os l

-- The layout of the items of each slot, those under nulls too.
abbrev pub list_values : Layout → List Layout
list_values l = parts_between (map nat_of (list_offsets l)) (list_child l)

-- The same of each slot that isn't null.
abbrev pub valid_list_values : Layout → List (Option Layout)
valid_list_values l = masked_values (validity_of l) (list_values l)

-- The layouts of the items of the slots from a up to b that aren't null.
abbrev pub lists_between : List (Option Layout) → ℕ → ℕ → List Layout
lists_between slots a b = flat_map option_to_list (take (b - a) (drop a slots))

-- The same of all slots.
abbrev pub non_null_values : Layout → List Layout
non_null_values l = flat_map option_to_list (valid_list_values l)

-- Each has the type.
abbrev pub HaveType : TypeData → List Layout → Type 0
HaveType t ls = AllByRecursion (λ l. type_of l ≡ t) ls

-- The slot that has the slots of a layout as its items.
abbrev pub items_slot : Layout → Slot
items_slot l = items (slots_of (denote l))

-- ---- the tests of parts

-- The last offset is within the child.
abbrev pub EndsWithin : Layout → Type 0
EndsWithin l = end_of (list_offsets l) ≤ length_of (list_child l)

-- A mask has a bit for each slot.
abbrev pub CoversSlots : Layout → Type 0
CoversSlots l = MaskHasLength (validity_of l) (length_of l)

-- The child has the type that is declared for it.
abbrev pub HasDeclaredChild : Layout → Type 0
HasDeclaredChild l = child_type (type_of l) ≡ Some (type_of (list_child l))

-- What the parts of lists keep beside what each part keeps itself.
pub record ListFits (kind : PhysicalType) (l : Layout) : Type 0 where
  pub within : EndsWithin l
  pub covers : CoversSlots l
  pub stored : IsStoredAs kind l
  pub child : HasDeclaredChild l

-- What the parts of a map keep.
pub record MapFits (l : Layout) : Type 0 where
  pub parts : ListFits physical.Map l
  pub pair : DeclaresPair (type_of l)

-- Why the parts of lists are refused: the first test that fails.
abbrev pub ListRefusedFor : Reason → PhysicalType → Layout → Type 0
ListRefusedFor OffsetPastValues kind l = EndsWithin l → ⊥
ListRefusedFor MaskLength kind l = EndsWithin l × (CoversSlots l → ⊥)
ListRefusedFor WrongLogicalType kind l = EndsWithin l × CoversSlots l × (IsStoredAs kind l → ⊥)
ListRefusedFor ChildTypeDiffers kind l =
    EndsWithin l × CoversSlots l × IsStoredAs kind l × (HasDeclaredChild l → ⊥)
ListRefusedFor _ kind l = ⊥

abbrev pub ListRefused : PolarsError → PhysicalType → Layout → Type 0
ListRefused (ComputeError reason) kind l = ListRefusedFor reason kind l
ListRefused OutOfMemory kind l = ⊤
ListRefused _ kind l = ⊥

-- Why the parts of a map are refused: its mask is tested last.
abbrev pub MapRefusedFor : Reason → Layout → Type 0
MapRefusedFor OffsetPastValues l = EndsWithin l → ⊥
MapRefusedFor WrongLogicalType l = EndsWithin l × (IsStoredAs physical.Map l → ⊥)
MapRefusedFor EntriesNotPair l =
    EndsWithin l × IsStoredAs physical.Map l × (DeclaresPair (type_of l) → ⊥)
MapRefusedFor ChildTypeDiffers l =
    EndsWithin l × IsStoredAs physical.Map l × DeclaresPair (type_of l) × (HasDeclaredChild l → ⊥)
MapRefusedFor MaskLength l =
    EndsWithin l × IsStoredAs physical.Map l × DeclaresPair (type_of l) × HasDeclaredChild l × (CoversSlots l → ⊥)
MapRefusedFor _ l = ⊥

abbrev pub MapRefused : PolarsError → Layout → Type 0
MapRefused (ComputeError reason) l = MapRefusedFor reason l
MapRefused OutOfMemory l = ⊤
MapRefused _ l = ⊥
