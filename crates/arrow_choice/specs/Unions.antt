-- The parts of unions: which parts make one, why others are refused, and where the value of each slot stands.
use Rattle.std.specs.Prelude.{◌≡◌, ℕ, suc, ◌+◌, ◌^◌, ◌<◌, ◌≤◌, ℤ, pos, List, [], ◌∷◌, length, map, get_or, Option, Some, None, IfSome, ⊤}
use Rattle.std.specs.List.{AllByRecursion}
use Rattle.std.specs.Simd.Lanes.{zip2}
use Rattle.arrow_types.specs.Carried.{IsBelow, count_fields}
use Rattle.arrow_types.specs.Seen.{seen}
use Rattle.arrow_types.specs.Select.{nat_of}
use Rattle.arrow_types.specs.TypeData.{TypeData}
use Rattle.arrow_types.specs.Types.{physical_of}
use Rattle.arrow_types.specs.declared.datatype.ArrowDataType.{ArrowDataType}
use Rattle.arrow_types.specs.declared.datatype.PhysicalType.TheVariants as physical
use Rattle.arrow_types.specs.declared.datatype.UnionMode.{UnionMode}
use Rattle.arrow_types.specs.declared.datatype.UnionMode.TheVariants.{Dense, Sparse}
use Rattle.arrow_types.specs.declared.error.PolarsError.{PolarsError}
use Rattle.arrow_types.specs.declared.error.PolarsError.TheVariants.{ComputeError, OutOfMemory}
use Rattle.arrow_types.specs.declared.error.Reason.{Reason}
use Rattle.arrow_types.specs.declared.error.Reason.TheVariants.{WrongLogicalType, FieldCount, TooManyFields, ChildTypeDiffers, OffsetsLength, OffsetsMode, IdCount, IdRange, TypeRange, NotCarried, DenseOffset, SparseLength}
use Rattle.arrow_flat.specs.Slots.{Slot, null, chosen}
use Rattle.arrow_layout.specs.Denote.{denote}
use Rattle.arrow_layout.specs.FitsHere.{HaveLengths}
use Rattle.arrow_layout.specs.Forms.{form_of, fields_by, ids_by, mode_by}
use Rattle.arrow_layout.specs.Layouts.{Layout, Layouts, child_count, dense_unions, layouts, length_of, lengths_of, sparse_unions, type_of}
use Rattle.arrow_layout.specs.Paths.{children_of, layout_at}
use Rattle.arrow_layout.specs.WellFormed.{AllNamed, HaveTypes, positions, type_limit}

-- ---- which parts make a union

-- The type, the type number of each slot, the offset of each slot if there are offsets, and the children.
pub record UnionParts : Type 0 where
  pub dtype : TypeData
  pub types : List ℤ
  pub offsets : Option (List ℤ)
  pub children : Layouts

abbrev pub given_parts : ArrowDataType → List ℤ → Option (List ℤ) → List Layout → UnionParts
given_parts t ts os ls = record { dtype = seen t; types = ts; offsets = os; children = layouts ls }

abbrev pub union_field_count : TypeData → ℕ
union_field_count t = count_fields (fields_by (form_of t))

abbrev pub IsUnionType : TypeData → Type 0
IsUnionType t = physical_of t ≡ Some physical.Union

-- A dense union has offsets, and a sparse one has none.
abbrev pub AreOffsetsOf : UnionMode → Option (List ℤ) → Type 0
AreOffsetsOf Dense (Some os) = ⊤
AreOffsetsOf Sparse None = ⊤
AreOffsetsOf mode os = ⊥

-- Where there are ids, there is one for each field.
abbrev pub HasAllIds : TypeData → Type 0
HasAllIds t = IfSome (ids_by (form_of t)) (λ ids. length ids ≡ union_field_count t)

abbrev pub HasSmallIds : TypeData → Type 0
HasSmallIds t = IfSome (ids_by (form_of t)) (λ ids. AllByRecursion (IsBelow 128) ids)

-- Each type number may stand in a union of the type.
abbrev pub AreTypeNumbers : TypeData → List ℤ → Type 0
AreTypeNumbers t ts = AllByRecursion (IsBelow (type_limit t)) ts

-- Each offset names a slot of the child that the slot's type number selects.
abbrev pub NameSlots : TypeData → List ℤ → Layouts → List ℤ → Type 0
NameSlots t ts ls os = AllByRecursion (IsBelow (2 ^ 31)) os × AllNamed (lengths_of ls) (positions t ts) (map nat_of os)

-- Without offsets each child has a slot for each of the union.
abbrev pub HaveSlots : ℕ → Layouts → Option (List ℤ) → Type 0
HaveSlots n ls None = HaveLengths (λ i. n ≤ i) ls
HaveSlots n ls (Some os) = ⊤

-- The type is a union's, each of its fields, which are at most 127, has a child of its whole type, and there is an offset
-- for each slot exactly where the type is dense.
pub record HasShape (u : UnionParts) : Type 0 where
  pub stored : IsUnionType u.dtype
  pub count : child_count u.children ≡ union_field_count u.dtype
  pub few : union_field_count u.dtype ≤ 127
  pub types : HaveTypes (fields_by (form_of u.dtype)) u.children
  pub offset_count : IfSome u.offsets (λ os. length os ≡ length u.types)
  pub mode : AreOffsetsOf (mode_by (form_of u.dtype)) u.offsets

-- What a union is made of: parts of this shape, ids from 0 to 127, one for each field, where there are ids, type numbers
-- that may stand there, at least one field, and children that have each slot that is read.
pub record AreUnionParts (u : UnionParts) : Type 0 where
  pub shape : HasShape u
  pub all_ids : HasAllIds u.dtype
  pub small_ids : HasSmallIds u.dtype
  pub numbers : AreTypeNumbers u.dtype u.types
  pub fields : 0 < union_field_count u.dtype
  pub dense : IfSome u.offsets (NameSlots u.dtype u.types u.children)
  pub sparse : HaveSlots (length u.types) u.children u.offsets

-- Why parts are refused: the first test that fails.
abbrev pub RefusedFor : Reason → UnionParts → Type 0
RefusedFor WrongLogicalType u = IsUnionType u.dtype → ⊥
RefusedFor FieldCount u = IsUnionType u.dtype × (child_count u.children ≡ union_field_count u.dtype → ⊥)
RefusedFor TooManyFields u = IsUnionType u.dtype × (child_count u.children ≡ union_field_count u.dtype) × (union_field_count u.dtype ≤ 127 → ⊥)
RefusedFor ChildTypeDiffers u =
    IsUnionType u.dtype × (child_count u.children ≡ union_field_count u.dtype) × (union_field_count u.dtype ≤ 127)
    × (HaveTypes (fields_by (form_of u.dtype)) u.children → ⊥)
RefusedFor OffsetsLength u =
    IsUnionType u.dtype × (child_count u.children ≡ union_field_count u.dtype) × (union_field_count u.dtype ≤ 127)
    × HaveTypes (fields_by (form_of u.dtype)) u.children × (IfSome u.offsets (λ os. length os ≡ length u.types) → ⊥)
RefusedFor OffsetsMode u =
    IsUnionType u.dtype × (child_count u.children ≡ union_field_count u.dtype) × (union_field_count u.dtype ≤ 127)
    × HaveTypes (fields_by (form_of u.dtype)) u.children × IfSome u.offsets (λ os. length os ≡ length u.types)
    × (AreOffsetsOf (mode_by (form_of u.dtype)) u.offsets → ⊥)
RefusedFor IdCount u = HasShape u × (HasAllIds u.dtype → ⊥)
RefusedFor IdRange u = HasShape u × HasAllIds u.dtype × (HasSmallIds u.dtype → ⊥)
RefusedFor TypeRange u = HasShape u × HasAllIds u.dtype × HasSmallIds u.dtype × (AreTypeNumbers u.dtype u.types → ⊥)
RefusedFor NotCarried u =
    HasShape u × HasAllIds u.dtype × HasSmallIds u.dtype × AreTypeNumbers u.dtype u.types × (0 < union_field_count u.dtype → ⊥)
RefusedFor DenseOffset u =
    HasShape u × HasAllIds u.dtype × HasSmallIds u.dtype × AreTypeNumbers u.dtype u.types × (0 < union_field_count u.dtype)
    × (IfSome u.offsets (NameSlots u.dtype u.types u.children) → ⊥)
RefusedFor SparseLength u =
    HasShape u × HasAllIds u.dtype × HasSmallIds u.dtype × AreTypeNumbers u.dtype u.types × (0 < union_field_count u.dtype)
    × IfSome u.offsets (NameSlots u.dtype u.types u.children) × (HaveSlots (length u.types) u.children u.offsets → ⊥)
RefusedFor _ u = ⊥

abbrev pub Refused : PolarsError → UnionParts → Type 0
Refused (ComputeError reason) u = RefusedFor reason u
Refused OutOfMemory u = ⊤
Refused _ u = ⊥

-- ---- the parts of a union's layout

abbrev pub type_numbers : Layout → List ℤ
type_numbers (sparse_unions t o ts ls) = ts
type_numbers (dense_unions t o ts os ls) = ts
type_numbers _ = []

abbrev pub union_offsets : Layout → Option (List ℤ)
union_offsets (dense_unions t o ts os ls) = Some os
union_offsets _ = None

abbrev pub union_shift : Layout → ℕ
union_shift (sparse_unions t o ts ls) = o
union_shift (dense_unions t o ts os ls) = o
union_shift _ = 0

-- ---- where the value of each slot stands: the position of the child, and the slot there

-- Each child is read at the slot's own position, from a shift on.
abbrev pub sparse_indices : ℕ → List ℕ → List (ℕ × ℕ)
sparse_indices shift [] = []
sparse_indices shift (j ∷ js) = (j, shift) ∷ sparse_indices (suc shift) js

-- Each child is read at the slot's offset.
abbrev pub dense_indices : List ℕ → List ℕ → List (ℕ × ℕ)
dense_indices [] os = []
dense_indices (j ∷ js) [] = []
dense_indices (j ∷ js) (o ∷ os) = (j, o) ∷ dense_indices js os

abbrev pub indices_by : Option (List ℤ) → ℕ → List ℕ → List (ℕ × ℕ)
indices_by None shift js = sparse_indices shift js
indices_by (Some os) shift js = dense_indices js (map nat_of os)

abbrev pub indices : Layout → List (ℕ × ℕ)
indices l = indices_by (union_offsets l) (union_shift l) (positions (type_of l) (type_numbers l))

-- The slot of a child that the slot at a position reads.
abbrev pub slot_by : Option (List ℤ) → ℕ → ℕ → ℕ
slot_by None shift i = i + shift
slot_by (Some os) shift i = nat_of (get_or os i (pos 0))

-- There is such a child, and it has such a slot.
abbrev pub NamesSlot : Layouts → ℕ × ℕ → Type 0
NamesSlot ls p = (p.0 < child_count ls) × (p.1 < length_of (layout_at p.0 ls))

abbrev pub child_slot : Layouts → ℕ × ℕ → Slot
child_slot ls p = get_or (denote (layout_at p.0 ls)) p.1 null

-- The slots that the children have there, each with its type number.
abbrev pub indexed_slots : Layout → List Slot
indexed_slots l = zip2 (λ n p. chosen n (child_slot (children_of l) p)) (map nat_of (type_numbers l)) (indices l)
