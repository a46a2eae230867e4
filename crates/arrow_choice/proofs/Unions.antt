-- Unions: the parts that make one are well formed and those of a well-formed one, and what the index of a slot names.
use Rattle.std.proofs.Common.{◌≡◌, ℕ, zero, suc, ◌+◌, ◌^◌, ◌<◌, ◌≤◌, Bool, true, false, not, IsTrue, List, [], ◌∷◌, length, map, take, drop, drop_of_length-le, get_or, slice_get, Option, Some, None, ◌↔◌, refl, ap, ap₂, sym, subst, ◌∙◌, arith}
use Rattle.std.specs.Prelude.{ℤ, pos, negsuc, ◌==◌, IfSome, ⊤}
use Rattle.std.specs.List.{AllByRecursion}
use Rattle.std.specs.Simd.Lanes.{zip2}
use Rattle.std.proofs.lemmas.Bool.{eqb-true, false≢true}
use Rattle.std.proofs.lemmas.List.{length-map}
use Rattle.arrow_types.specs.Carried.{AreCarried, AreIds, IsBelow, IsCarried, count_fields}
use Rattle.arrow_types.specs.Select.{nat_of, select}
use Rattle.arrow_types.specs.TypeData.{FieldList, TypeData, and_field, no_fields}
use Rattle.arrow_types.specs.TypeData as T
use Rattle.arrow_types.specs.Seen.{back, back_fields, seen, seen_fields}
use Rattle.arrow_types.specs.Types.{logical_of}
use Rattle.arrow_types.specs.declared.datatype.ArrowDataType.{ArrowDataType}
use Rattle.arrow_types.specs.declared.datatype.ArrowDataType as A
use Rattle.arrow_types.specs.declared.datatype.Field.{Field}
use Rattle.arrow_types.specs.declared.datatype.UnionType.{UnionType, roll-UnionType}
use Rattle.arrow_types.proofs.Back.{back-seen}
use Rattle.arrow_types.specs.declared.datatype.PhysicalType.{PhysicalType}
use Rattle.arrow_types.specs.declared.datatype.PhysicalType.TheVariants as physical
use Rattle.arrow_types.specs.declared.datatype.UnionMode.{UnionMode}
use Rattle.arrow_types.specs.declared.datatype.UnionMode.TheVariants.{Dense, Sparse}
use Rattle.arrow_flat.specs.Slots.{Slot, null, chosen}
use Rattle.arrow_layout.specs.Cut.{part}
use Rattle.arrow_layout.specs.Denote.{columns, dense_slots, denote, first_slot, sparse_slots}
use Rattle.arrow_layout.specs.FitsHere.{AllWellFormed, FitsHere, HaveLengths}
use Rattle.arrow_layout.specs.Forms.{Form, binaries_of, booleans_of, dictionaries_of, fields_by, fixed_size_binaries_of, fixed_size_lists_of, form_of, ids_by, lists_of, mode_by, no_form, nulls_of, primitives_of, structs_of, unions_of, views_of}
use Rattle.arrow_layout.specs.Layouts.{Layout, Layouts, child, child_count, dense_unions, layouts, length_of, lengths_of, no_layouts, sparse_unions, type_of}
use Rattle.arrow_layout.specs.Paths.{children_of, layout_at}
use Rattle.arrow_layout.specs.WellFormed.{AllNamed, HaveTypes, IsColumnOf, WellFormed, positions, type_limit}
use Rattle.arrow_layout.proofs.ByForm.{carried_form}
use Rattle.arrow_layout.proofs.Conforms.{selects}
use Rattle.arrow_layout.proofs.CutForms.{count_below}
use Rattle.arrow_layout.proofs.Cuts.{part-map}
use Rattle.arrow_layout.proofs.FromParts.{all_well, fits_here}
use Rattle.arrow_layout.proofs.Lengths.{length-positions, offsets_many}
use Rattle.arrow_layout.proofs.Physical.{list_kind, physical_by, physical-by}
use Rattle.arrow_layout.proofs.Unique.{carried_of}
use Rattle.arrow_meaning.specs.Refusals.{IsUnion}
use Rattle.arrow_choice.specs.Unions.{AreOffsetsOf, AreUnionParts, IsUnionType, NamesSlot, UnionParts, child_slot, dense_indices, union_field_count, indices, slot_by, sparse_indices, type_numbers, union_offsets, union_shift}

-- ---- types of unions

abbrev pub IsUnionKind : Option PhysicalType → Type 0
IsUnionKind (Some physical.Union) = ⊤
IsUnionKind _ = ⊥

list_is_none : (t : TypeData) → IsUnionKind (Some (list_kind t)) → ⊥
list_is_none (T.map f o) h = h
list_is_none (T.extension n t m) h = list_is_none t h
list_is_none _ h = h

abbrev pub IsUnionForm : Form → Type 0
IsUnionForm f = f ≡ unions_of (mode_by f) (ids_by f) (fields_by f)

form_by : (t : TypeData) (f : Form) → IsUnionKind (physical_by t f) → IsUnionForm f
form_by t (unions_of mode ids fs) h = refl
form_by t (lists_of true u) h = absurd h
form_by t (lists_of false u) h = absurd (list_is_none t h)
form_by t (views_of true) h = absurd h
form_by t (views_of false) h = absurd h
form_by t (binaries_of true true) h = absurd h
form_by t (binaries_of true false) h = absurd h
form_by t (binaries_of false true) h = absurd h
form_by t (binaries_of false false) h = absurd h
form_by t nulls_of h = absurd h
form_by t booleans_of h = absurd h
form_by t (primitives_of p) h = absurd h
form_by t (fixed_size_binaries_of k) h = absurd h
form_by t (fixed_size_lists_of k u) h = absurd h
form_by t (structs_of fs) h = absurd h
form_by t (dictionaries_of k u) h = absurd h
form_by t no_form h = absurd h

pub union_form : (t : TypeData) → IsUnionType t → IsUnionForm (form_of t)
union_form t e = form_by t (form_of t) (subst IsUnionKind (sym e ∙ physical-by t) tt)

pub form_stored : (t : TypeData) (mode : UnionMode) → form_of t ≡ unions_of mode (ids_by (form_of t)) (fields_by (form_of t)) → IsUnionType t
form_stored t mode e = physical-by t ∙ ap (physical_by t) e

abbrev HasUnionForm : Form → Type 0
HasUnionForm (unions_of mode ids fs) = ⊤
HasUnionForm _ = ⊥

union_of : (f : Form) → IsUnionForm f → HasUnionForm f
union_of f e = subst HasUnionForm (sym e) tt

-- without outer extensions

abbrev IsLogical : TypeData → Type 0
IsLogical (T.extension n t m) = ⊥
IsLogical _ = ⊤

is_logical : (t : TypeData) → IsLogical (logical_of t)
is_logical (T.extension n t m) = is_logical t
is_logical _ = tt

pub form-logical : (t : TypeData) → form_of (logical_of t) ≡ form_of t
form-logical (T.extension n t m) = form-logical t
form-logical _ = refl

module _ (t : ArrowDataType) (union : (u : UnionType) → t ≡ A.Union u → ⊥) where
  other_by : (s : TypeData) → back s ≡ t → IsLogical s → HasUnionForm (form_of s) → ⊥
  other_by (T.union fs ids mode) e l h = union (roll-UnionType record { fields = back_fields fs; ids = ids; mode = mode }) (sym e)
  other_by (T.extension n u m) e l h = absurd l
  other_by (T.list (T.field n u b m)) e l h = absurd h
  other_by (T.large_list (T.field n u b m)) e l h = absurd h
  other_by (T.map (T.field n u b m) o) e l h = absurd h
  other_by (T.fixed_size_list (T.field n u b m) k) e l h = absurd h
  other_by _ e l h = absurd h

  -- a type whose variant is no union is no type of unions
  pub union_other : (d : TypeData) → seen t ≡ logical_of d → IsUnionType d → ⊥
  union_other d e h =
      other_by (seen t) (back-seen t) (subst IsLogical (sym e) (is_logical d))
      (subst HasUnionForm (sym (ap form_of e ∙ form-logical d)) (union_of (form_of d) (union_form d h)))

abbrev IsCarriedUnion : Form → Type 0
IsCarriedUnion f = (0 < count_fields (fields_by f)) × (count_fields (fields_by f) ≤ 127) × AreIds (ids_by f) (count_fields (fields_by f)) × AreCarried (fields_by f)

carried_by : (t : TypeData) → HasUnionForm (form_of t) → IsCarriedUnion (form_of t) → IsCarried t
carried_by (T.union fs ids mode) h c = c
carried_by (T.extension n t m) h c = carried_by t h c
carried_by (T.list (T.field n t b m)) h c = absurd h
carried_by (T.large_list (T.field n t b m)) h c = absurd h
carried_by (T.map (T.field n t b m) o) h c = absurd h
carried_by (T.fixed_size_list (T.field n t b m) k) h c = absurd h
carried_by _ h c = absurd h

fields_carried : (fs : FieldList) (ls : Layouts) → HaveTypes fs ls → AllWellFormed ls → AreCarried fs
fields_carried no_fields ls h w = tt
fields_carried (and_field f fs) no_layouts h w = absurd h
fields_carried (and_field (T.field n t b m) fs) (child l ls) h w = (subst IsCarried (sym h.0) (carried_of l w.0), fields_carried fs ls h.1 w.1)

pub types_count : (fs : FieldList) (ls : Layouts) → HaveTypes fs ls → child_count ls ≡ count_fields fs
types_count no_fields no_layouts h = refl
types_count no_fields (child l ls) h = absurd h
types_count (and_field f fs) no_layouts h = absurd h
types_count (and_field f fs) (child l ls) h = ap suc (types_count fs ls h.1)

-- ---- lengths of children

weaker_lengths : (P Q : ℕ → Type 0) → ((n : ℕ) → P n → Q n) → (ls : Layouts) → HaveLengths P ls → HaveLengths Q ls
weaker_lengths P Q f no_layouts h = tt
weaker_lengths P Q f (child l ls) h = (f (length_of l) h.0, weaker_lengths P Q f ls h.1)

length_at : (P : ℕ → Type 0) (ls : Layouts) (j : ℕ) → HaveLengths P ls → j < child_count ls → P (length_of (layout_at j ls))
length_at P no_layouts j h e = absurd (omega arith)
length_at P (child l ls) zero h e = h.0
length_at P (child l ls) (suc j) h e = length_at P ls j h.1 (omega arith)

lengths_at : (ls : Layouts) (j : ℕ) → get_or (lengths_of ls) j 0 ≡ length_of (layout_at j ls)
lengths_at no_layouts j = refl
lengths_at (child l ls) zero = refl
lengths_at (child l ls) (suc j) = lengths_at ls j

-- ---- what such parts make is well formed

mode_is : (mode : UnionMode) → AreOffsetsOf mode None → mode ≡ Sparse
mode_is Sparse h = refl
mode_is Dense h = absurd h

mode_with : (mode : UnionMode) (os : List ℤ) → AreOffsetsOf mode (Some os) → mode ≡ Dense
mode_with Dense os h = refl
mode_with Sparse os h = absurd h

ids_fit : (ids : Option (List ℤ)) (n : ℕ) → IfSome ids (λ xs. length xs ≡ n) → IfSome ids (λ xs. AllByRecursion (IsBelow 128) xs) → AreIds ids n
ids_fit None n h k = tt
ids_fit (Some xs) n h k = (h, k)

module _ (t : TypeData) (ts : List ℤ) (os : Option (List ℤ)) (ls : Layouts) where
  abbrev parts : UnionParts
  parts = record { dtype = t; types = ts; offsets = os; children = ls }

  column : (mode : UnionMode) → mode_by (form_of t) ≡ mode → AreUnionParts parts → AllWellFormed ls → length ts < 2 ^ 64
      → IsColumnOf t (unions_of mode (ids_by (form_of t)) (fields_by (form_of t))) None (length ts)
  column mode e p w n =
      let form = union_form t p.shape.stored in
      record {
        carried = carried_by t (union_of (form_of t) form)
            (p.fields, p.shape.few, ids_fit (ids_by (form_of t)) (union_field_count t) p.all_ids p.small_ids, fields_carried (fields_by (form_of t)) ls p.shape.types w);
        of_form = form ∙ ap (λ m. unions_of m (ids_by (form_of t)) (fields_by (form_of t))) e;
        mask = tt;
        count = n;
      }

pub sparse_fits : (t : TypeData) (ts : List ℤ) (ls : Layouts) → AreUnionParts record { dtype = t; types = ts; offsets = None; children = ls } → AllWellFormed ls → length ts < 2 ^ 64
    → FitsHere (sparse_unions t 0 ts ls)
sparse_fits t ts ls p w n = (
  column t ts None ls Sparse (mode_is (mode_by (form_of t)) p.shape.mode) p w n,
  p.numbers,
  omega arith,
  p.shape.types,
  weaker_lengths (λ i. length ts ≤ i) (λ i. 0 + length ts ≤ i) (λ i h. omega (arith, h)) ls p.sparse,
)

pub dense_fits : (t : TypeData) (ts os : List ℤ) (ls : Layouts) → AreUnionParts record { dtype = t; types = ts; offsets = Some os; children = ls } → AllWellFormed ls → length ts < 2 ^ 64
    → FitsHere (dense_unions t 0 ts os ls)
dense_fits t ts os ls p w n =
    (column t ts (Some os) ls Dense (mode_with (mode_by (form_of t)) os p.shape.mode) p w n, p.numbers, refl, p.dense.0, p.dense.1, p.shape.types)

-- ---- the parts of a well-formed one

pub sparse_mode : (r : Bool) (mode : UnionMode) → IsTrue r ↔ (mode ≡ Sparse) → IsTrue r ↔ AreOffsetsOf mode None
sparse_mode r Sparse h = (λ e. tt, λ k. h.1 refl)
sparse_mode r Dense h = (λ e. absurd (dense_is (h.0 e)), λ k. absurd k)
  where
    dense_is : Dense ≡ Sparse → ⊥
    dense_is e = cc

pub dense_mode : (r : Bool) (mode : UnionMode) (os : List ℤ) → IsTrue r ↔ (mode ≡ Sparse) → IsTrue (not r) ↔ AreOffsetsOf mode (Some os)
dense_mode true Sparse os h = (λ e. absurd (false≢true e), λ k. absurd k)
dense_mode true Dense os h = (λ e. tt, λ k. absurd (dense_is (h.0 refl)))
  where
    dense_is : Dense ≡ Sparse → ⊥
    dense_is e = cc
dense_mode false Sparse os h = (λ e. absurd (false≢true (h.1 refl)), λ k. absurd k)
dense_mode false Dense os h = (λ e. tt, λ k. refl)

mode_none : (mode : UnionMode) → mode ≡ Sparse → AreOffsetsOf mode None
mode_none Sparse e = tt
mode_none Dense e = absurd cc

mode_some : (mode : UnionMode) (os : List ℤ) → mode ≡ Dense → AreOffsetsOf mode (Some os)
mode_some Dense os e = tt
mode_some Sparse os e = absurd cc

ids_counted : (ids : Option (List ℤ)) (n : ℕ) → AreIds ids n → IfSome ids (λ xs. length xs ≡ n)
ids_counted None n h = tt
ids_counted (Some xs) n h = h.0

ids_small : (ids : Option (List ℤ)) (n : ℕ) → AreIds ids n → IfSome ids (λ xs. AllByRecursion (IsBelow 128) xs)
ids_small None n h = tt
ids_small (Some xs) n h = h.1

pub sparse_parts : (t : TypeData) (ts : List ℤ) (ls : Layouts) → WellFormed (sparse_unions t 0 ts ls) → AreUnionParts record { dtype = t; types = ts; offsets = None; children = ls }
sparse_parts t ts ls w =
    let here = fits_here (sparse_unions t 0 ts ls) w in
    let c = carried_form t _ w.0.of_form w.0.carried in
    record {
      shape = record {
        stored = form_stored t Sparse w.0.of_form;
        count = types_count (fields_by (form_of t)) ls w.3;
        few = c.1;
        types = w.3;
        offset_count = tt;
        mode = mode_none (mode_by (form_of t)) (ap mode_by w.0.of_form);
      };
      all_ids = ids_counted (ids_by (form_of t)) (union_field_count t) c.2;
      small_ids = ids_small (ids_by (form_of t)) (union_field_count t) c.2;
      numbers = w.1;
      fields = c.0;
      dense = tt;
      sparse = weaker_lengths (λ i. 0 + length ts ≤ i) (λ i. length ts ≤ i) (λ i h. omega (arith, h)) ls here.4;
    }

pub dense_parts : (t : TypeData) (ts os : List ℤ) (ls : Layouts) → WellFormed (dense_unions t 0 ts os ls) → AreUnionParts record { dtype = t; types = ts; offsets = Some os; children = ls }
dense_parts t ts os ls w =
    let c = carried_form t _ w.0.of_form w.0.carried in
    record {
      shape = record {
        stored = form_stored t Dense w.0.of_form;
        count = types_count (fields_by (form_of t)) ls w.5;
        few = c.1;
        types = w.5;
        offset_count = sym (length-map os nat_of) ∙ (offsets_many t ts os (lengths_of ls) w.4 ∙ length-map ts nat_of);
        mode = mode_some (mode_by (form_of t)) os (ap mode_by w.0.of_form);
      };
      all_ids = ids_counted (ids_by (form_of t)) (union_field_count t) c.2;
      small_ids = ids_small (ids_by (form_of t)) (union_field_count t) c.2;
      numbers = w.1;
      fields = c.0;
      dense = (w.3, w.4);
      sparse = tt;
    }

-- ---- what the index of a slot names

pub sparse_index_at : (shift : ℕ) (js : List ℕ) (i : ℕ) → i < length js → slice_get (sparse_indices shift js) i ≡ Some (get_or js i 0, i + shift)
sparse_index_at shift [] i h = absurd (omega arith)
sparse_index_at shift (j ∷ js) zero h = let e : shift ≡ 0 + shift = omega arith in ap (λ o. Some (j, o)) e
sparse_index_at shift (j ∷ js) (suc i) h =
    let e : i + suc shift ≡ suc i + shift = omega arith in
    sparse_index_at (suc shift) js i (omega arith) ∙ ap (λ o. Some (get_or js i 0, o)) e

pub dense_index_at : (js os : List ℕ) (i : ℕ) → i < length js → length os ≡ length js → slice_get (dense_indices js os) i ≡ Some (get_or js i 0, get_or os i 0)
dense_index_at [] os i h e = absurd (omega arith)
dense_index_at (j ∷ js) [] i h e = absurd (omega arith)
dense_index_at (j ∷ js) (o ∷ os) zero h e = refl
dense_index_at (j ∷ js) (o ∷ os) (suc i) h e = dense_index_at js os i (omega arith) (omega arith)

pub length-sparse_indices : (shift : ℕ) (js : List ℕ) → length (sparse_indices shift js) ≡ length js
length-sparse_indices shift [] = refl
length-sparse_indices shift (j ∷ js) = ap suc (length-sparse_indices (suc shift) js)

pub length-dense_indices : (js os : List ℕ) → length os ≡ length js → length (dense_indices js os) ≡ length js
length-dense_indices [] os e = refl
length-dense_indices (j ∷ js) [] e = absurd (omega arith)
length-dense_indices (j ∷ js) (o ∷ os) e = ap suc (length-dense_indices js os (omega arith))

map_at : {A B : Type 0} (f : A → B) (xs : List A) (i : ℕ) (d : A) (e : B) → i < length xs → get_or (map f xs) i e ≡ f (get_or xs i d)
map_at f [] i d e h = absurd (omega arith)
map_at f (x ∷ xs) zero d e h = refl
map_at f (x ∷ xs) (suc i) d e h = map_at f xs i d e (omega arith)

pub position_at : (t : TypeData) (ts : List ℤ) (i : ℕ) → i < length ts → get_or (positions t ts) i 0 ≡ select (ids_by (form_of t)) (nat_of (get_or ts i (pos 0)))
position_at t ts i h =
    map_at (select (ids_by (form_of t))) (map nat_of ts) i 0 0 (omega (arith, length-map ts nat_of)) ∙ ap (select (ids_by (form_of t))) (map_at nat_of ts i (pos 0) 0 h)

number_below : (n : ℕ) (ts : List ℤ) (i : ℕ) → AllByRecursion (IsBelow n) ts → i < length ts → nat_of (get_or ts i (pos 0)) < n
number_below n [] i h e = absurd (omega arith)
number_below n (pos t ∷ ts) zero h e = h.0
number_below n (negsuc t ∷ ts) zero h e = absurd h.0
number_below n (t ∷ ts) (suc i) h e = number_below n ts i h.1 (omega arith)

named_at : (lens js os : List ℕ) (i : ℕ) → AllNamed lens js os → i < length js → get_or os i 0 < get_or lens (get_or js i 0) 0
named_at lens [] os i h e = absurd (omega arith)
named_at lens (j ∷ js) [] i h e = absurd h
named_at lens (j ∷ js) (o ∷ os) zero h e = h.0
named_at lens (j ∷ js) (o ∷ os) (suc i) h e = named_at lens js os i h.1 (omega arith)

-- the field that a slot selects is there
field_named : (t : TypeData) (mode : UnionMode) (ts : List ℤ) (ls : Layouts) (i : ℕ) → IsCarried t → form_of t ≡ unions_of mode (ids_by (form_of t)) (fields_by (form_of t))
    → AllByRecursion (IsBelow (type_limit t)) ts → HaveTypes (fields_by (form_of t)) ls → i < length ts → get_or (positions t ts) i 0 < child_count ls
field_named t mode ts ls i c e h k l =
    subst (λ n. get_or (positions t ts) i 0 < n) (sym (types_count (fields_by (form_of t)) ls k))
    (subst (λ j. j < count_fields (fields_by (form_of t))) (sym (position_at t ts i l)) (selects t mode c e (nat_of (get_or ts i (pos 0))) (number_below (type_limit t) ts i h l)))

pub sparse_names : (t : TypeData) (shift : ℕ) (ts : List ℤ) (ls : Layouts) (i : ℕ) → WellFormed (sparse_unions t shift ts ls) → i < length ts → NamesSlot ls (get_or (positions t ts) i 0, i + shift)
sparse_names t shift ts ls i w l =
    let there = field_named t Sparse ts ls i w.0.carried w.0.of_form w.1 w.3 l in
    let long = length_at (λ n. shift + length ts ≤ n) ls (get_or (positions t ts) i 0) (fits_here (sparse_unions t shift ts ls) w).4 there in
    (there, omega (arith, long, l))

pub dense_names : (t : TypeData) (shift : ℕ) (ts os : List ℤ) (ls : Layouts) (i : ℕ) → WellFormed (dense_unions t shift ts os ls) → i < length ts
    → NamesSlot ls (get_or (positions t ts) i 0, get_or (map nat_of os) i 0)
dense_names t shift ts os ls i w l =
    let there = field_named t Dense ts ls i w.0.carried w.0.of_form w.1 w.5 l in
    let named = named_at (lengths_of ls) (positions t ts) (map nat_of os) i w.4 (omega (arith, length-positions t ts, l)) in
    (there, subst (λ n. get_or (map nat_of os) i 0 < n) (lengths_at ls (get_or (positions t ts) i 0)) named)

-- ---- the index of a slot, from the parts of the union

abbrev pub index_by : Layout → ℕ → ℕ × ℕ
index_by l i = (select (ids_by (form_of (type_of l))) (nat_of (get_or (type_numbers l) i (pos 0))), slot_by (union_offsets l) (union_shift l) i)

offset_count : (t : TypeData) (shift : ℕ) (ts os : List ℤ) (ls : Layouts) → WellFormed (dense_unions t shift ts os ls) → length os ≡ length ts
offset_count t shift ts os ls w = sym (length-map os nat_of) ∙ (offsets_many t ts os (lengths_of ls) w.4 ∙ length-map ts nat_of)

pub same_pair : {a b c d : ℕ} → a ≡ c → b ≡ d → let p : ℕ × ℕ = (a, b) in let q : ℕ × ℕ = (c, d) in p ≡ q
same_pair e f = λ i. (e i, f i)

sparse_pair : (t : TypeData) (shift : ℕ) (ts : List ℤ) (ls : Layouts) (i : ℕ) → i < length ts → let p : ℕ × ℕ = (get_or (positions t ts) i 0, i + shift) in p ≡ index_by (sparse_unions t shift ts ls) i
sparse_pair t shift ts ls i h = same_pair (position_at t ts i h) refl

dense_pair : (t : TypeData) (shift : ℕ) (ts os : List ℤ) (ls : Layouts) (i : ℕ) → WellFormed (dense_unions t shift ts os ls) → i < length ts
    → let p : ℕ × ℕ = (get_or (positions t ts) i 0, get_or (map nat_of os) i 0) in p ≡ index_by (dense_unions t shift ts os ls) i
dense_pair t shift ts os ls i w h = same_pair (position_at t ts i h) (map_at nat_of os i (pos 0) 0 (omega (arith, offset_count t shift ts os ls w, h)))

pub index_found : (l : Layout) → IsUnion l → WellFormed l → (i : ℕ) → i < length_of l → slice_get (indices l) i ≡ Some (index_by l i)
index_found (sparse_unions t shift ts ls) u w i h =
    sparse_index_at shift (positions t ts) i (omega (arith, length-positions t ts, h)) ∙ ap Some (sparse_pair t shift ts ls i h)
index_found (dense_unions t shift ts os ls) u w i h =
    dense_index_at (positions t ts) (map nat_of os) i (omega (arith, length-positions t ts, h))
    (omega (arith, length-positions t ts, length-map os nat_of, offset_count t shift ts os ls w))
    ∙ ap Some (dense_pair t shift ts os ls i w h)
index_found _ u w i h = absurd u

pub index_names : (l : Layout) → IsUnion l → WellFormed l → (i : ℕ) → i < length_of l → NamesSlot (children_of l) (index_by l i)
index_names (sparse_unions t shift ts ls) u w i h = subst (NamesSlot ls) (sparse_pair t shift ts ls i h) (sparse_names t shift ts ls i w h)
index_names (dense_unions t shift ts os ls) u w i h = subst (NamesSlot ls) (dense_pair t shift ts os ls i w h) (dense_names t shift ts os ls i w h)
index_names _ u w i h = absurd u

well_at : (ls : Layouts) (j : ℕ) → AllWellFormed ls → j < child_count ls → WellFormed (layout_at j ls)
well_at no_layouts j w h = absurd (omega arith)
well_at (child l ls) zero w h = w.0
well_at (child l ls) (suc j) w h = well_at ls j w.1 (omega arith)

pub index_small : (l : Layout) → IsUnion l → WellFormed l → (i : ℕ) → i < length_of l → i + union_shift l < 2 ^ 64
index_small (sparse_unions t shift ts ls) u w i h =
    let named = sparse_names t shift ts ls i w h in
    let j = get_or (positions t ts) i 0 in
    omega (arith, named.1, count_below (layout_at j ls) (well_at ls j (all_well (sparse_unions t shift ts ls) w) named.0))
index_small (dense_unions t shift ts os ls) u w i h = omega (arith, w.0.count, w.2, h)
index_small _ u w i h = absurd u

pub index_covered : (l : Layout) → IsUnion l → WellFormed l → (i : ℕ) → i < length_of l → IfSome (union_offsets l) (λ os. i < length os)
index_covered (sparse_unions t shift ts ls) u w i h = tt
index_covered (dense_unions t shift ts os ls) u w i h = omega (arith, offset_count t shift ts os ls w, h)
index_covered _ u w i h = absurd u

pub indices_counted : (l : Layout) → IsUnion l → WellFormed l → length (indices l) ≡ length (type_numbers l)
indices_counted (sparse_unions t shift ts ls) u w = length-sparse_indices shift (positions t ts) ∙ length-positions t ts
indices_counted (dense_unions t shift ts os ls) u w =
    length-dense_indices (positions t ts) (map nat_of os) (omega (arith, length-positions t ts, length-map os nat_of, offset_count t shift ts os ls w)) ∙ length-positions t ts
indices_counted _ u w = absurd u

pub numbers_counted : (l : Layout) → IsUnion l → length (type_numbers l) ≡ length_of l
numbers_counted (sparse_unions t shift ts ls) u = refl
numbers_counted (dense_unions t shift ts os ls) u = refl
numbers_counted _ u = absurd u

-- ---- what a union denotes

column_at : (j : ℕ) (ls : Layouts) → get_or (columns ls) j [] ≡ denote (layout_at j ls)
column_at j no_layouts = refl
column_at zero (child l ls) = refl
column_at (suc j) (child l ls) = column_at j ls

drop_nothing : (n : ℕ) → let none : List Slot = [] in drop n none ≡ none
drop_nothing zero = refl
drop_nothing (suc n) = refl

first_dropped : (o : ℕ) (xs : List Slot) → first_slot (drop o xs) ≡ get_or xs o null
first_dropped zero [] = refl
first_dropped (suc o) [] = refl
first_dropped zero (x ∷ xs) = refl
first_dropped (suc o) (x ∷ xs) = first_dropped o xs

dropped_at : (o j : ℕ) (cs : List (List Slot)) → get_or (map (drop o) cs) j [] ≡ drop o (get_or cs j [])
dropped_at o j [] = sym (drop_nothing o)
dropped_at o zero (c ∷ cs) = refl
dropped_at o (suc j) (c ∷ cs) = dropped_at o j cs

drop_one : {A : Type 0} (o : ℕ) (xs : List A) → drop 1 (drop o xs) ≡ drop (suc o) xs
drop_one zero xs = refl
drop_one (suc o) [] = refl
drop_one (suc o) (x ∷ xs) = drop_one o xs

drop_ones : (o : ℕ) (cs : List (List Slot)) → map (drop 1) (map (drop o) cs) ≡ map (drop (suc o)) cs
drop_ones o [] = refl
drop_ones o (c ∷ cs) = ap₂ (λ d ds. d ∷ ds) (drop_one o c) (drop_ones o cs)

module _ (select_field : ℕ → ℕ) (ls : Layouts) where
  pub sparse_slots_at : (shift : ℕ) (ts : List ℕ)
      → sparse_slots select_field ts (map (drop shift) (columns ls)) ≡ zip2 (λ n p. chosen n (child_slot ls p)) ts (sparse_indices shift (map select_field ts))
  sparse_slots_at shift [] = refl
  sparse_slots_at shift (t ∷ ts) =
      let j = select_field t in
      let here : first_slot (get_or (map (drop shift) (columns ls)) j []) ≡ get_or (denote (layout_at j ls)) shift null =
      ap first_slot (dropped_at shift j (columns ls)) ∙ (first_dropped shift (get_or (columns ls) j []) ∙ ap (λ c. get_or c shift null) (column_at j ls)) in
      ap₂ (λ x xs. x ∷ xs) (ap (chosen t) here) (ap (sparse_slots select_field ts) (drop_ones shift (columns ls)) ∙ sparse_slots_at (suc shift) ts)

  pub dense_slots_at : (ts os : List ℕ) → dense_slots select_field ts os (columns ls) ≡ zip2 (λ n p. chosen n (child_slot ls p)) ts (dense_indices (map select_field ts) os)
  dense_slots_at [] os = refl
  dense_slots_at (t ∷ ts) [] = refl
  dense_slots_at (t ∷ ts) (o ∷ os) =
      ap₂ (λ x xs. x ∷ xs) (ap (λ c. chosen t (get_or c o null)) (column_at (select_field t) ls)) (dense_slots_at ts os)

-- ---- slices

drop-sparse_indices : (shift o : ℕ) (js : List ℕ) → sparse_indices (shift + o) (drop o js) ≡ drop o (sparse_indices shift js)
drop-sparse_indices shift zero js = let e : shift + 0 ≡ shift = omega arith in ap (λ s. sparse_indices s js) e
drop-sparse_indices shift (suc o) [] = refl
drop-sparse_indices shift (suc o) (j ∷ js) = let e : shift + suc o ≡ suc shift + o = omega arith in ap (λ s. sparse_indices s (drop o js)) e ∙ drop-sparse_indices (suc shift) o js

take-sparse_indices : (shift n : ℕ) (js : List ℕ) → sparse_indices shift (take n js) ≡ take n (sparse_indices shift js)
take-sparse_indices shift zero js = refl
take-sparse_indices shift (suc n) [] = refl
take-sparse_indices shift (suc n) (j ∷ js) = ap (λ ps. (j, shift) ∷ ps) (take-sparse_indices (suc shift) n js)

no_offsets : (js : List ℕ) → dense_indices js [] ≡ []
no_offsets [] = refl
no_offsets (j ∷ js) = refl

drop-dense_indices : (o : ℕ) (js os : List ℕ) → dense_indices (drop o js) (drop o os) ≡ drop o (dense_indices js os)
drop-dense_indices zero js os = refl
drop-dense_indices (suc o) [] os = refl
drop-dense_indices (suc o) (j ∷ js) [] = no_offsets (drop o js)
drop-dense_indices (suc o) (j ∷ js) (p ∷ os) = drop-dense_indices o js os

take-dense_indices : (n : ℕ) (js os : List ℕ) → dense_indices (take n js) (take n os) ≡ take n (dense_indices js os)
take-dense_indices zero js os = refl
take-dense_indices (suc n) [] os = refl
take-dense_indices (suc n) (j ∷ js) [] = refl
take-dense_indices (suc n) (j ∷ js) (p ∷ os) = ap (λ ps. (j, p) ∷ ps) (take-dense_indices n js os)

part-positions : (t : TypeData) (o n : ℕ) (ts : List ℤ) → positions t (part o n ts) ≡ part o n (positions t ts)
part-positions t o n ts =
    ap (map (select (ids_by (form_of t)))) (sym (part-map nat_of o n ts)) ∙ sym (part-map (select (ids_by (form_of t))) o n (map nat_of ts))

pub sparse_part : (t : TypeData) (shift o n : ℕ) (ts : List ℤ) → sparse_indices (shift + o) (positions t (part o n ts)) ≡ part o n (sparse_indices shift (positions t ts))
sparse_part t shift o n ts =
    ap (sparse_indices (shift + o)) (part-positions t o n ts)
    ∙ (take-sparse_indices (shift + o) n (drop o (positions t ts)) ∙ ap (take n) (drop-sparse_indices shift o (positions t ts)))

pub dense_part : (t : TypeData) (o n : ℕ) (ts os : List ℤ) → dense_indices (positions t (part o n ts)) (map nat_of (part o n os)) ≡ part o n (dense_indices (positions t ts) (map nat_of os))
dense_part t o n ts os =
    ap₂ dense_indices (part-positions t o n ts) (sym (part-map nat_of o n os))
    ∙ (take-dense_indices n (drop o (positions t ts)) (drop o (map nat_of os)) ∙ ap (take n) (drop-dense_indices o (positions t ts) (map nat_of os)))

-- ---- the tests of the parts, one item after the other

pub some_there : (r : Bool) (n : ℕ) → r ≡ (n == 0) → r ≡ false → 0 < n
some_there r zero e f = absurd cc
some_there r (suc n) e f = omega arith

pub none_there : (r : Bool) (n : ℕ) → r ≡ (n == 0) → r ≡ true → n ≡ 0
none_there r n e f = eqb-true n 0 (sym e ∙ f)

pub children_counted : (ls : List Layout) → child_count (layouts ls) ≡ length ls
children_counted [] = refl
children_counted (l ∷ ls) = ap suc (children_counted ls)

pub fields_counted : (fs : List Field) → count_fields (seen_fields fs) ≡ length fs
fields_counted [] = refl
fields_counted (f ∷ fs) = ap suc (fields_counted fs)

pub long_step : (P : ℕ → Type 0) (ls : List Layout) (i : ℕ) (l : Layout) → i < length ls → HaveLengths P (layouts (take i ls)) → l ≡ get_or ls i l → P (length_of l)
    → HaveLengths P (layouts (take (suc i) ls))
long_step P [] i l h a e w = tt
long_step P (k ∷ ls) zero l h a e w = (subst (λ x. P (length_of x)) e w, tt)
long_step P (k ∷ ls) (suc i) l h a e w = (a.0, long_step P ls i l (omega arith) a.1 e w)

pub length_found : (ls : List Layout) (i : ℕ) (l : Layout) → i < length ls → l ≡ get_or ls i l → length_of l ≡ get_or (lengths_of (layouts ls)) i 0
length_found [] i l h e = absurd (omega arith)
length_found (k ∷ ls) zero l h e = ap length_of e
length_found (k ∷ ls) (suc i) l h e = length_found ls i l (omega arith) e

pub none_found : (ls : List Layout) (i : ℕ) → length ls ≤ i → get_or (lengths_of (layouts ls)) i 0 ≡ 0
none_found [] i h = refl
none_found (k ∷ ls) zero h = absurd (omega arith)
none_found (k ∷ ls) (suc i) h = none_found ls i (omega arith)

nat_below : (n : ℕ) (o : ℤ) → IsBelow n o → nat_of o < n
nat_below n (pos o) h = h
nat_below n (negsuc o) h = absurd h

module _ (select_field : ℕ → ℕ) (lens : List ℕ) where
  -- the offset at a position names a slot
  abbrev pub IsNamed : List ℤ → List ℤ → ℕ → Type 0
  IsNamed ts os k = IsBelow (2 ^ 31) (get_or os k (pos 0)) × IsBelow (get_or lens (select_field (nat_of (get_or ts k (pos 0)))) 0) (get_or os k (pos 0))

  pub named_from : (ts os : List ℤ) → length os ≡ length ts → ((k : ℕ) → k < length os → IsNamed ts os k)
      → AllByRecursion (IsBelow (2 ^ 31)) os × AllNamed lens (map select_field (map nat_of ts)) (map nat_of os)
  named_from [] [] e h = (tt, tt)
  named_from [] (o ∷ os) e h = absurd (omega arith)
  named_from (t ∷ ts) [] e h = absurd (omega arith)
  named_from (t ∷ ts) (o ∷ os) e h =
      let here = h 0 (omega arith) in
      let rest = named_from ts os (omega arith) (λ k l. h (suc k) (omega arith)) in
      ((here.0, rest.0), (nat_below (get_or lens (select_field (nat_of t)) 0) o here.1, rest.1))

  below_of : (m n : ℕ) (o : ℤ) → IsBelow m o → nat_of o < n → IsBelow n o
  below_of m n (pos o) h k = k
  below_of m n (negsuc o) h k = absurd h

  pub named_in : (ts os : List ℤ) (k : ℕ) → AllByRecursion (IsBelow (2 ^ 31)) os → AllNamed lens (map select_field (map nat_of ts)) (map nat_of os) → k < length os
      → IsBelow (get_or lens (select_field (nat_of (get_or ts k (pos 0)))) 0) (get_or os k (pos 0))
  named_in ts [] k h n l = absurd (omega arith)
  named_in [] (o ∷ os) k h n l = absurd n
  named_in (t ∷ ts) (o ∷ os) zero h n l = below_of (2 ^ 31) (get_or lens (select_field (nat_of t)) 0) o h.0 n.0
  named_in (t ∷ ts) (o ∷ os) (suc k) h n l = named_in ts os k h.1 n.1 (omega arith)
