-- What a layout asks of its own node, its children being well formed.
use Rattle.std.specs.Prelude.{◌≡◌, ℕ, pred, ◌+◌, ◌*◌, ◌^◌, ◌<◌, ◌≤◌, map, length, None, ⊤}
use Rattle.std.specs.List.{AllByRecursion}
use Rattle.arrow_types.specs.Types.{logical_of, integer_type}
use Rattle.arrow_types.specs.Carried.{IsBelow}
use Rattle.arrow_types.specs.Select.{nat_of}
use Rattle.arrow_types.specs.declared.datatype.UnionMode.TheVariants.{Dense, Sparse}
use Rattle.arrow_flat.specs.Numbers.{InRange}
use Rattle.arrow_layout.specs.Forms.{lists_of, fixed_size_lists_of, structs_of, unions_of, dictionaries_of, form_of, large_by, fields_by, ids_by, key_by, value_by, offset_limit, key_range}
use Rattle.arrow_layout.specs.Layouts.{Layout, lists, fixed_size_lists, structs, sparse_unions, dense_unions, dictionaries, Layouts, no_layouts, child, type_of, length_of, lengths_of}
use Rattle.arrow_layout.specs.WellFormed.{mask_bits, AllSet, AreOffsetsWithin, AllNamed, HaveTypes, positions, IsColumnOf, type_limit, WellFormed}

abbrev pub HaveLengths : (ℕ → Type 0) → Layouts → Type 0
HaveLengths P no_layouts = ⊤
HaveLengths P (child l ls) = P (length_of l) × HaveLengths P ls

abbrev pub AllWellFormed : Layouts → Type 0
AllWellFormed no_layouts = ⊤
AllWellFormed (child l ls) = WellFormed l × AllWellFormed ls

abbrev pub FitsHere : Layout → Type 0
FitsHere (lists t m os l) = IsColumnOf t (lists_of (large_by (form_of t)) (type_of l)) m (pred (length os)) × AreOffsetsWithin (offset_limit (form_of t)) (length_of l) os
FitsHere (fixed_size_lists t m k n l) = IsColumnOf t (fixed_size_lists_of k (type_of l)) m n × (length_of l ≡ n * k)
FitsHere (structs t m n ls) = IsColumnOf t (structs_of (fields_by (form_of t))) m n × HaveTypes (fields_by (form_of t)) ls × HaveLengths (λ i. i ≡ n) ls
FitsHere (sparse_unions t o ts ls) =
    IsColumnOf t (unions_of Sparse (ids_by (form_of t)) (fields_by (form_of t))) None (length ts) × AllByRecursion (IsBelow (type_limit t)) ts
    × (o < 2 ^ 64) × HaveTypes (fields_by (form_of t)) ls × HaveLengths (λ i. o + length ts ≤ i) ls
FitsHere (dense_unions t o ts os ls) =
    IsColumnOf t (unions_of Dense (ids_by (form_of t)) (fields_by (form_of t))) None (length ts) × AllByRecursion (IsBelow (type_limit t)) ts
    × (o ≡ 0) × AllByRecursion (IsBelow (2 ^ 31)) os × AllNamed (lengths_of ls) (positions t ts) (map nat_of os) × HaveTypes (fields_by (form_of t)) ls
FitsHere (dictionaries t u m ks l) =
    IsColumnOf t (dictionaries_of (key_by (form_of t)) (value_by (form_of t))) m (length ks) × (u ≡ integer_type (key_by (form_of t)))
    × AllByRecursion (InRange (key_range (key_by (form_of t)))) ks × AllSet (IsBelow (length_of l)) (mask_bits m (length ks)) ks
    × (logical_of (value_by (form_of t)) ≡ logical_of (type_of l))
FitsHere l = WellFormed l
