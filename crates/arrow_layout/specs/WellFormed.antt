-- Which layouts are well formed.
use Rattle.std.specs.Prelude.{◌≡◌, ℕ, pred, ◌+◌, ◌*◌, ◌^◌, ◌<◌, ◌≤◌, ℤ, Bool, true, false, List, [], ◌∷◌, map, length, replicate, get_or, Option, Some, None, ⊤}
use Rattle.std.specs.List.{AllByRecursion}
use Rattle.arrow_types.specs.TypeData.{TypeData, FieldList, no_fields, and_field}
use Rattle.arrow_types.specs.TypeData as T
use Rattle.arrow_types.specs.Types.{logical_of, integer_type}
use Rattle.arrow_types.specs.Carried.{IsBelow, count_fields, IsCarried}
use Rattle.arrow_types.specs.Select.{select, number_limit, nat_of}
use Rattle.arrow_types.specs.declared.datatype.UnionMode.TheVariants.{Dense, Sparse}
use Rattle.arrow_buffers.specs.Bits.{Bits}
use Rattle.arrow_flat.specs.Numbers.{InRange, IsNumber}
use Rattle.arrow_flat.specs.Views.{IsView, view_bytes}
use Rattle.arrow_layout.specs.Forms.{Form, nulls_of, booleans_of, primitives_of, binaries_of, fixed_size_binaries_of, views_of, lists_of, fixed_size_lists_of, structs_of, unions_of, dictionaries_of, form_of, primitive_by, large_by, text_by, fields_by, ids_by, key_by, value_by, offset_limit, key_range}
use Rattle.arrow_layout.specs.Layouts.{Layout, nulls, booleans, primitives, binaries, fixed_size_binaries, views, lists, fixed_size_lists, structs, sparse_unions, dense_unions, dictionaries, Layouts, no_layouts, child, type_of, length_of, lengths_of}
use Rattle.arrow_flat.specs.Pieces.{pieces}
use Rattle.arrow_flat.specs.Natives.{AreBytes}
use Rattle.arrow_layout.specs.SlotsOf.{IsTextIf}

-- A bit for each of n slots.
abbrev pub mask_bits : Option Bits → ℕ → List Bool
mask_bits None n = replicate n true
mask_bits (Some b) n = b.bits

-- A mask has one bit for each slot, and fewer bits before them than a byte has.
abbrev pub MaskFits : Option Bits → ℕ → Type 0
MaskFits None n = ⊤
MaskFits (Some b) n = (length b.bits ≡ n) × (b.lead < 8)

-- It holds where the bit is set.
abbrev pub AllSet : {A : Type 0} → (A → Type 0) → List Bool → List A → Type 0
AllSet P [] xs = ⊤
AllSet P (b ∷ bits) [] = ⊤
AllSet P (true ∷ bits) (x ∷ xs) = P x × AllSet P bits xs
AllSet P (false ∷ bits) (x ∷ xs) = AllSet P bits xs

-- From a on, none below the one before, and the last at most the top.
abbrev pub AscendTo : ℕ → ℕ → List ℕ → Type 0
AscendTo top a [] = a ≤ top
AscendTo top a (b ∷ os) = (a ≤ b) × AscendTo top b os

abbrev pub AreOffsetsTo : ℕ → List ℕ → Type 0
AreOffsetsTo top [] = ⊥
AreOffsetsTo top (a ∷ os) = AscendTo top a os

-- At least one offset, each below the limit and not negative, none below the one before, the last at most the top.
pub record AreOffsetsWithin (limit top : ℕ) (os : List ℤ) : Type 0 where
  pub in_range : AllByRecursion (IsBelow limit) os
  pub ascend : AreOffsetsTo top (map nat_of os)

-- Each offset is below the length of the child at the position.
abbrev pub AllNamed : List ℕ → List ℕ → List ℕ → Type 0
AllNamed lengths [] [] = ⊤
AllNamed lengths [] (o ∷ os) = ⊥
AllNamed lengths (i ∷ is) [] = ⊥
AllNamed lengths (i ∷ is) (o ∷ os) = (o < get_or lengths i 0) × AllNamed lengths is os

-- One child for each field, in field order, with the field's whole type.
abbrev pub HaveTypes : FieldList → Layouts → Type 0
HaveTypes no_fields no_layouts = ⊤
HaveTypes no_fields (child l ls) = ⊥
HaveTypes (and_field f fs) no_layouts = ⊥
HaveTypes (and_field f fs) (child l ls) = (T.field_type f ≡ type_of l) × HaveTypes fs ls

-- The positions of the fields that type numbers select.
abbrev pub positions : TypeData → List ℤ → List ℕ
positions t ts = map (select (ids_by (form_of t))) (map nat_of ts)

-- What each kind of layout asks for: a type that columns have and that is laid out so, a mask for n slots, and a count of
-- slots that a usize holds.
pub record IsColumnOf (t : TypeData) (f : Form) (m : Option Bits) (n : ℕ) : Type 0 where
  pub carried : IsCarried t
  pub of_form : form_of t ≡ f
  pub mask : MaskFits m n
  pub count : n < 2 ^ 64

-- The numbers that may select a field of the union type.
abbrev pub type_limit : TypeData → ℕ
type_limit t = number_limit (ids_by (form_of t)) (count_fields (fields_by (form_of t)))

abbrev mutual
  pub WellFormed : Layout → Type 0
  WellFormed (nulls t n) = IsColumnOf t nulls_of None n
  WellFormed (booleans t m vs) = IsColumnOf t booleans_of m (length vs.bits) × (vs.lead < 8)
  WellFormed (primitives t m vs) =
      IsColumnOf t (primitives_of (primitive_by (form_of t))) m (length vs) × AllByRecursion (IsNumber (primitive_by (form_of t))) vs
  WellFormed (binaries t m os bs) =
      IsColumnOf t (binaries_of (large_by (form_of t)) (text_by (form_of t))) m (pred (length os)) × AreOffsetsWithin (offset_limit (form_of t)) (length bs) os
      × AreBytes bs × (length bs < 2 ^ 64) × AllByRecursion (IsTextIf (text_by (form_of t))) (pieces (map nat_of os) bs)
  WellFormed (fixed_size_binaries t m k n bs) =
      IsColumnOf t (fixed_size_binaries_of k) m n × (length bs ≡ n * k) × AreBytes bs × (length bs < 2 ^ 64)
  WellFormed (views t m vs buffers) =
      IsColumnOf t (views_of (text_by (form_of t))) m (length vs) × AllByRecursion (IsView buffers) vs × AllByRecursion AreBytes buffers
      × AllByRecursion (IsTextIf (text_by (form_of t))) (map (view_bytes buffers) vs)
  WellFormed (lists t m os l) =
      IsColumnOf t (lists_of (large_by (form_of t)) (type_of l)) m (pred (length os)) × AreOffsetsWithin (offset_limit (form_of t)) (length_of l) os × WellFormed l
  WellFormed (fixed_size_lists t m k n l) = IsColumnOf t (fixed_size_lists_of k (type_of l)) m n × (length_of l ≡ n * k) × WellFormed l
  WellFormed (structs t m n ls) =
      IsColumnOf t (structs_of (fields_by (form_of t))) m n × HaveTypes (fields_by (form_of t)) ls × AreWellFormed (λ i. i ≡ n) ls
  WellFormed (sparse_unions t o ts ls) =
      IsColumnOf t (unions_of Sparse (ids_by (form_of t)) (fields_by (form_of t))) None (length ts) × AllByRecursion (IsBelow (type_limit t)) ts
      × (o < 2 ^ 64) × HaveTypes (fields_by (form_of t)) ls × AreWellFormed (λ i. o + length ts ≤ i) ls
  WellFormed (dense_unions t o ts os ls) =
      IsColumnOf t (unions_of Dense (ids_by (form_of t)) (fields_by (form_of t))) None (length ts) × AllByRecursion (IsBelow (type_limit t)) ts
      × (o ≡ 0) × AllByRecursion (IsBelow (2 ^ 31)) os × AllNamed (lengths_of ls) (positions t ts) (map nat_of os)
      × HaveTypes (fields_by (form_of t)) ls × AreWellFormed (λ i. 0 ≤ i) ls
  WellFormed (dictionaries t u m ks l) =
      IsColumnOf t (dictionaries_of (key_by (form_of t)) (value_by (form_of t))) m (length ks) × (u ≡ integer_type (key_by (form_of t)))
      × AllByRecursion (InRange (key_range (key_by (form_of t)))) ks × AllSet (IsBelow (length_of l)) (mask_bits m (length ks)) ks
      × (logical_of (value_by (form_of t)) ≡ logical_of (type_of l)) × WellFormed l

  -- Each is well formed, and its length is as wanted.
  pub AreWellFormed : (ℕ → Type 0) → Layouts → Type 0
  AreWellFormed P no_layouts = ⊤
  AreWellFormed P (child l ls) = P (length_of l) × WellFormed l × AreWellFormed P ls
