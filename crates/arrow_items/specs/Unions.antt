-- The canonical layout of slots picked out of unions, by the field that each slot selects.
use Rattle.std.specs.Prelude.{ℕ, suc, ◌+◌, nat_eq, ℤ, pos, cond, List, [], ◌∷◌, map, flat_map, get_or, Option, Some, None}
use Rattle.arrow_types.specs.TypeData.{TypeData}
use Rattle.arrow_types.specs.Select.{first_number, nat_of, select}
use Rattle.arrow_layout.specs.Canon.{counts_after}
use Rattle.arrow_layout.specs.Forms.{form_of, ids_by}
use Rattle.arrow_layout.specs.Layouts.{Layout, sparse_unions, dense_unions, Layouts, no_layouts, child}
use Rattle.arrow_layout.specs.WellFormed.{positions}
use Rattle.arrow_canon.specs.Picks.{pick}
use Rattle.arrow_items.specs.Kinds.{child_picked}

-- The type number of a filling, and the field that it selects.
abbrev pub fill_number : TypeData → ℕ
fill_number t = first_number (ids_by (form_of t))

abbrev pub fill_field : TypeData → ℕ
fill_field t = select (ids_by (form_of t)) (fill_number t)

-- The type numbers at places.
abbrev pub numbers_picked : TypeData → List ℤ → List (Option ℕ) → List ℤ
numbers_picked t ts ps = map pos (map (pick (fill_number t) (map nat_of ts)) ps)

-- The fields that are selected at places, given those of the slots.
abbrev pub fields_picked : TypeData → List ℕ → List (Option ℕ) → List ℕ
fields_picked t fields ps = map (pick (fill_field t) fields) ps

-- In field j of a sparse union: the slot's own position after the shift where it selects the field, else none.
abbrev pub sparse_place : List ℕ → ℕ → ℕ → Option ℕ → Option ℕ
sparse_place fields shift j None = None
sparse_place fields shift j (Some i) = cond (nat_eq (get_or fields i 0) j) (Some (shift + i)) None

-- In field j of a dense union: the slot's offset where it selects the field, else nothing; a filling selects the field `first`.
abbrev pub dense_places : List ℕ → List ℕ → ℕ → ℕ → Option ℕ → List (Option ℕ)
dense_places fields os first j None = cond (nat_eq first j) (None ∷ []) []
dense_places fields os first j (Some i) = cond (nat_eq (get_or fields i 0) j) (Some (get_or os i 0) ∷ []) []

-- The children at places of their own, the first of them at those of field j.
abbrev pub children_by : (ℕ → List (Option ℕ)) → Layouts → ℕ → Layouts
children_by places_in no_layouts j = no_layouts
children_by places_in (child l ls) j = child (child_picked l (places_in j)) (children_by places_in ls (suc j))

abbrev pub sparse_children : List ℕ → ℕ → Layouts → List (Option ℕ) → Layouts
sparse_children fields shift ls ps = children_by (λ j. map (sparse_place fields shift j) ps) ls 0

abbrev pub dense_children : List ℕ → List ℕ → ℕ → Layouts → List (Option ℕ) → Layouts
dense_children fields os first ls ps = children_by (λ j. flat_map (dense_places fields os first j) ps) ls 0

-- The canonical layouts, by the type numbers of the slots, the shift or offsets and the children.
abbrev pub sparse_picked : TypeData → ℕ → List ℤ → Layouts → List (Option ℕ) → Layout
sparse_picked t shift ts ls ps = sparse_unions t 0 (numbers_picked t ts ps) (sparse_children (positions t ts) shift ls ps)

abbrev pub dense_picked : TypeData → List ℤ → List ℕ → Layouts → List (Option ℕ) → Layout
dense_picked t ts os ls ps =
    dense_unions t 0 (numbers_picked t ts ps) (map pos (counts_after [] (fields_picked t (positions t ts) ps)))
    (dense_children (positions t ts) os (fill_field t) ls ps)
