-- The dictionaries that stand at one place of several layouts of one type, and their values joined.
use Rattle.std.specs.Prelude.{◌≡◌, ℕ, zero, suc, ◌≤◌, List, [], ◌∷◌, length, map, flat_map, ⊤}
use Rattle.arrow_types.specs.TypeData.{TypeData, FieldList, no_fields, and_field}
use Rattle.arrow_types.specs.TypeData as T
use Rattle.arrow_types.specs.Capacity.{key_capacity}
use Rattle.arrow_types.specs.declared.datatype.IntegerType.{IntegerType}
use Rattle.arrow_flat.specs.Slots.{Slot}
use Rattle.arrow_layout.specs.Layouts.{Layout, nulls, lists, fixed_size_lists, structs, sparse_unions, dense_unions, dictionaries, Layouts, no_layouts, child}
use Rattle.arrow_layout.specs.Denote.{denote}
use Rattle.arrow_layout.specs.Canon.{canon}
use Rattle.arrow_layout.specs.Fits.{Fits}

-- The children of a layout: that of a list kind or map, one for each field of a struct or union, the values of a dictionary.
abbrev pub children_of : Layout → Layouts
children_of (lists t m os l) = child l no_layouts
children_of (fixed_size_lists t m k n l) = child l no_layouts
children_of (structs t m n ls) = ls
children_of (sparse_unions t o ts ls) = ls
children_of (dense_unions t o ts os ls) = ls
children_of (dictionaries t u m ks l) = child l no_layouts
children_of _ = no_layouts

-- The layout at a position, with what no offset names included.
abbrev pub layout_at : ℕ → Layouts → Layout
layout_at j no_layouts = nulls T.null 0
layout_at zero (child l ls) = l
layout_at (suc j) (child l ls) = layout_at j ls

abbrev pub child_at : ℕ → Layout → Layout
child_at j l = layout_at j (children_of l)

-- It holds of the key type, the declared type of the values and the layouts that stand there, at each dictionary that a
-- path leads to: from a list kind or map to its child, from a struct or union to each field, from a dictionary to its
-- values.
abbrev mutual
  pub AtDictionaries : (IntegerType → TypeData → List Layout → Type 0) → TypeData → List Layout → Type 0
  AtDictionaries P (T.list (T.field n t b m)) ls = AtDictionaries P t (map (child_at 0) ls)
  AtDictionaries P (T.large_list (T.field n t b m)) ls = AtDictionaries P t (map (child_at 0) ls)
  AtDictionaries P (T.map (T.field n t b m) o) ls = AtDictionaries P t (map (child_at 0) ls)
  AtDictionaries P (T.fixed_size_list (T.field n t b m) k) ls = AtDictionaries P t (map (child_at 0) ls)
  AtDictionaries P (T.struct fs) ls = AtFields P fs 0 ls
  AtDictionaries P (T.union fs ids mode) ls = AtFields P fs 0 ls
  AtDictionaries P (T.dictionary k t o) ls = P k t ls × AtDictionaries P t (map (child_at 0) ls)
  AtDictionaries P (T.extension n t m) ls = AtDictionaries P t ls
  AtDictionaries P _ ls = ⊤

  -- the fields from j on
  pub AtFields : (IntegerType → TypeData → List Layout → Type 0) → FieldList → ℕ → List Layout → Type 0
  AtFields P no_fields j ls = ⊤
  AtFields P (and_field (T.field n t b m) fs) j ls = AtDictionaries P t (map (child_at j) ls) × AtFields P fs (suc j) ls

-- The slots of the dictionaries' whole values, in the order of the layouts.
abbrev pub whole_values : List Layout → List Slot
whole_values ls = flat_map (λ l. denote (child_at 0 l)) ls

-- At each dictionary the values of all the layouts together can be named by a key.
abbrev pub KeysFit : TypeData → List Layout → Type 0
KeysFit t ls = AtDictionaries (λ k u ds. length (whole_values ds) ≤ key_capacity k) t ls

-- At each dictionary the values of all the layouts together fit into a canonical layout.
abbrev pub WholesFit : TypeData → List Layout → Type 0
WholesFit t ls = AtDictionaries (λ k u ds. Fits (canon u (whole_values ds))) t ls

-- The first of the layouts has the values of the others.
abbrev pub FirstIsWhole : List Layout → Type 0
FirstIsWhole [] = ⊤
FirstIsWhole (d ∷ ds) = denote (child_at 0 d) ≡ whole_values ds

-- At each dictionary the values of the layout are those of the others, whole and joined.
abbrev pub HasWholes : TypeData → List Layout → Layout → Type 0
HasWholes t ls l = AtDictionaries (λ k u ds. FirstIsWhole ds) t (l ∷ ls)
