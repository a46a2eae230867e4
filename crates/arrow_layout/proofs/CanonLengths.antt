-- The canonical layout has as many slots as the list.
use Rattle.std.proofs.Common.{List, [], ap, flat_map, length, map, pos, pred, refl, suc, sym, ℕ, ◌+◌, ◌∙◌, ◌∷◌, ◌≡◌}
use Rattle.std.proofs.lemmas.List.{length-map}
use Rattle.arrow_types.specs.TypeData.{FieldList, TypeData, and_field, no_fields}
use Rattle.arrow_types.specs.declared.datatype.UnionMode.TheVariants.{Dense, Sparse}
use Rattle.arrow_flat.specs.Numbers.{zeros}
use Rattle.arrow_flat.specs.Packs.{view_limit}
use Rattle.arrow_flat.specs.Slots.{Slot, Slots}
use Rattle.arrow_layout.specs.Canon.{boolean_of, bytes_or, canon, canon_chosen, canon_dense, canon_parts, distinct, sums_from, first_or, flat_canon, inner_if, inner_or, items_or, key_in, number_chosen, numbers, numbers_or, offsets, after_first}
use Rattle.arrow_layout.specs.Forms.{Form, binaries_of, booleans_of, dictionaries_of, fixed_size_binaries_of, fixed_size_lists_of, form_of, lists_of, nulls_of, primitives_of, structs_of, unions_of, views_of}
use Rattle.arrow_layout.specs.Layouts.{length_of}
use Rattle.arrow_layout.specs.SlotsOf.{fill}
use Rattle.arrow_layout.specs.WellFormed.{HaveTypes}
use Rattle.arrow_layout.proofs.ByForm.{canon-by, canon_by, type-canon}
use Rattle.arrow_flat.proofs.PackedViews.{length-views}
use Rattle.arrow_types.specs.TypeData as T

pub length-ends : (a : ℕ) (ns : List ℕ) → length (map pos (sums_from a ns)) ≡ length ns
length-ends a [] = refl
length-ends a (n ∷ ns) = ap suc (length-ends (a + n) ns)

pub length-offsets : {A B : Type 0} (g : B → List A) (s : List B) → pred (length (offsets (map (λ x. length (g x)) s))) ≡ length s
length-offsets g s = length-ends 0 (map (λ x. length (g x)) s) ∙ length-map s (λ x. length (g x))

pub length-flat : (t : TypeData) (f : Form) (s : List Slot) → length_of (flat_canon t f s) ≡ length s
length-flat t nulls_of s = refl
length-flat t booleans_of s = length-map s boolean_of
length-flat t (primitives_of p) s = length-map s (numbers_or (zeros p))
length-flat t (binaries_of large text) s = length-offsets (bytes_or []) s
length-flat t (fixed_size_binaries_of k) s = refl
length-flat t (views_of text) s = length-views view_limit (map (bytes_or []) s) 0 0 ∙ length-map s (bytes_or [])
length-flat t _ s = refl

pub length-numbers : (s : List Slot) → length (numbers s) ≡ length s
length-numbers s = length-map s (λ x. pos (number_chosen x))

length-by : (t : TypeData) (f : Form) (s : List Slot) → length_of (canon_by t f s) ≡ length s
length-by t (lists_of large u) s = length-offsets (items_or []) s
length-by t (fixed_size_lists_of k u) s = refl
length-by t (structs_of fs) s = refl
length-by t (unions_of Sparse ids fs) s = length-numbers s
length-by t (unions_of Dense ids fs) s = length-numbers s
length-by t (dictionaries_of k u) s = length-map s (key_in (distinct s))
length-by t f s = length-flat t f s

pub length-canon : (t : TypeData) (s : List Slot) → length_of (canon t s) ≡ length s
length-canon t s = ap length_of (canon-by t s) ∙ length-by t (form_of t) s

-- the children of canonical layouts have the types of the fields
pub types-parts : (fs : FieldList) (rs : List Slots) → HaveTypes fs (canon_parts fs rs)
types-parts no_fields rs = tt
types-parts (and_field (T.field n t b m) fs) rs = (sym (type-canon t (map (first_or (fill t)) rs)), types-parts fs (map after_first rs))

pub types-chosen : (select_field : ℕ → ℕ) (fs : FieldList) (j : ℕ) (s : List Slot) → HaveTypes fs (canon_chosen select_field fs j s)
types-chosen select_field no_fields j s = tt
types-chosen select_field (and_field (T.field n t b m) fs) j s = (sym (type-canon t (map (inner_or select_field (fill t) j) s)), types-chosen select_field fs (suc j) s)

pub types-dense : (select_field : ℕ → ℕ) (fs : FieldList) (j : ℕ) (s : List Slot) → HaveTypes fs (canon_dense select_field fs j s)
types-dense select_field no_fields j s = tt
types-dense select_field (and_field (T.field n t b m) fs) j s = (sym (type-canon t (flat_map (inner_if select_field j) s)), types-dense select_field fs (suc j) s)
