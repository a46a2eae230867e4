-- The columns of unions: what the children of a canonical union denote.
use Rattle.std.proofs.Common.{Bool, List, Option, [], ap, ap₂, arith, cond, drop, false, flat_map, get_or, map, nat_eq, refl, subst, suc, true, zero, ℕ, ◌+◌, ◌∙◌, ◌∷◌, ◌≡◌}
use Rattle.std.proofs.lemmas.Bool.{eq-eqb, eqb-true}
use Rattle.std.specs.List.{AllByRecursion}
use Rattle.arrow_types.specs.TypeData.{FieldList, TypeData, and_field, no_fields}
use Rattle.arrow_flat.specs.Slots.{Slot, bool, bytes, chosen, items, null, num, parts}
use Rattle.arrow_layout.specs.Canon.{inner_if, inner_or, number_chosen}
use Rattle.arrow_layout.specs.Denote.{first_slot, sparse_slots}
use Rattle.arrow_layout.specs.SlotsOf.{IsPart, IsSlot, IsUnionSlot, fill}
use Rattle.arrow_types.specs.TypeData as T

module _ (select_field : ℕ → ℕ) where
  -- the slot is one of a union over these fields
  abbrev pub IsOfFields : FieldList → Slot → Type 0
  IsOfFields fs x = IsUnionSlot (λ t y. IsPart fs (select_field t) y) x

  -- the slot is one of the union whose fields from j on are these
  abbrev pub IsFrom : FieldList → ℕ → Slot → Type 0
  IsFrom fs j x = IsUnionSlot (λ t y. (i : ℕ) → select_field t ≡ j + i → IsPart fs i y) x

  pub from_start : (fs : FieldList) (x : Slot) → IsOfFields fs x → IsFrom fs 0 x
  from_start fs (chosen t y) h = λ i e. subst (λ n. IsPart fs n y) (e ∙ (omega arith)) h
  from_start fs _ h = absurd h

  pub from_next : (n : List ℕ) (t : TypeData) (b : Bool) (m : Option T.Entries) (fs : FieldList) (j : ℕ) (x : Slot) → IsFrom (and_field (T.field n t b m) fs) j x → IsFrom fs (suc j) x
  from_next n t b m fs j (chosen u y) h = λ i e. h (suc i) (omega arith)
  from_next n t b m fs j _ h = absurd h

  -- ---- of a sparse union

  -- the columns of the fields from j on
  abbrev pub inner_columns : FieldList → ℕ → List Slot → List (List Slot)
  inner_columns no_fields j s = []
  inner_columns (and_field (T.field n t b m) fs) j s = map (inner_or select_field (fill t) j) s ∷ inner_columns fs (suc j) s

  inner_slot : (n : List ℕ) (t : TypeData) (c : Bool) (m : Option T.Entries) (fs : FieldList) (j u : ℕ) (b : Bool) (y : Slot) → nat_eq (select_field u) j ≡ b → IsSlot t (fill t)
      → ((i : ℕ) → select_field u ≡ j + i → IsPart (and_field (T.field n t c m) fs) i y) → IsSlot t (cond b y (fill t))
  inner_slot n t c m fs j u true y e f h = h 0 (eqb-true (select_field u) j e ∙ omega arith)
  inner_slot n t c m fs j u false y e f h = f

  pub inner_has : (n : List ℕ) (t : TypeData) (b : Bool) (m : Option T.Entries) (fs : FieldList) (j : ℕ) → IsSlot t (fill t) → (x : Slot) → IsFrom (and_field (T.field n t b m) fs) j x → IsSlot t (inner_or select_field (fill t) j x)
  inner_has n t b m fs j f (chosen u y) h = inner_slot n t b m fs j u (nat_eq (select_field u) j) y refl f h
  inner_has n t b m fs j f _ h = absurd h

  -- the selected slots of the columns
  selected_first : (fs : FieldList) (j i u : ℕ) (y : Slot) (s : List Slot) → select_field u ≡ j + i → IsPart fs i y → first_slot (get_or (inner_columns fs j (chosen u y ∷ s)) i []) ≡ y
  selected_first no_fields j i u y s e h = absurd h
  selected_first (and_field (T.field n t b m) fs) j zero u y s e h = rw (eq-eqb (select_field u) j (e ∙ omega arith)) refl
  selected_first (and_field (T.field n t b m) fs) j (suc i) u y s e h = selected_first fs (suc j) i u y s (e ∙ omega arith) h

  drop_columns : (fs : FieldList) (j : ℕ) (x : Slot) (s : List Slot) → map (drop 1) (inner_columns fs j (x ∷ s)) ≡ inner_columns fs j s
  drop_columns no_fields j x s = refl
  drop_columns (and_field (T.field n t b m) fs) j x s = ap (λ cs. map (inner_or select_field (fill t) j) s ∷ cs) (drop_columns fs (suc j) x s)

  pub sparse_case : (fs : FieldList) (s : List Slot) → AllByRecursion (IsOfFields fs) s → sparse_slots select_field (map number_chosen s) (inner_columns fs 0 s) ≡ s
  sparse_case fs [] h = refl
  sparse_case fs (chosen t y ∷ s) h =
      let e : select_field t ≡ 0 + select_field t = omega arith in
      ap₂ (λ x xs. x ∷ xs)
      (ap (chosen t) (selected_first fs 0 (select_field t) t y s e h.0))
      (rw (drop_columns fs 0 (chosen t y) s) (sparse_case fs s h.1))
  sparse_case fs (null ∷ s) h = absurd h.0
  sparse_case fs (bool z ∷ s) h = absurd h.0
  sparse_case fs (num z ∷ s) h = absurd h.0
  sparse_case fs (bytes bs ∷ s) h = absurd h.0
  sparse_case fs (items xs ∷ s) h = absurd h.0
  sparse_case fs (parts xs ∷ s) h = absurd h.0

  -- ---- of a dense union

  -- the columns of the fields from j on
  abbrev pub dense_columns : FieldList → ℕ → List Slot → List (List Slot)
  dense_columns no_fields j s = []
  dense_columns (and_field f fs) j s = flat_map (inner_if select_field j) s ∷ dense_columns fs (suc j) s

  dense_inner_by : (n : List ℕ) (t : TypeData) (c : Bool) (m : Option T.Entries) (fs : FieldList) (j u : ℕ) (b : Bool) (y : Slot) → nat_eq (select_field u) j ≡ b
      → ((i : ℕ) → select_field u ≡ j + i → IsPart (and_field (T.field n t c m) fs) i y) → AllByRecursion (IsSlot t) (cond b (y ∷ []) [])
  dense_inner_by n t c m fs j u true y e h = (h 0 (eqb-true (select_field u) j e ∙ omega arith), tt)
  dense_inner_by n t c m fs j u false y e h = tt

  pub dense_inner : (n : List ℕ) (t : TypeData) (b : Bool) (m : Option T.Entries) (fs : FieldList) (j : ℕ) (x : Slot) → IsFrom (and_field (T.field n t b m) fs) j x → AllByRecursion (IsSlot t) (inner_if select_field j x)
  dense_inner n t b m fs j (chosen u y) h = dense_inner_by n t b m fs j u (nat_eq (select_field u) j) y refl h
  dense_inner n t b m fs j _ h = absurd h
