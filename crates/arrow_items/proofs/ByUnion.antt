-- The canonical layout of picked slots of unions.
use Rattle.std.proofs.Common.{◌≡◌, ℕ, zero, suc, ◌+◌, ◌<◌, ◌≤◌, ℤ, pos, nat_eq, Bool, true, false, cond, List, [], ◌∷◌, length, map, drop, get_or, flat_map, refl, ap, ap₂, sym, ◌∙◌, subst, arith, Option, Some, None}
use Rattle.std.proofs.lemmas.Bool.{eqb-true}
use Rattle.std.proofs.lemmas.List.{length-map}
use Rattle.std.proofs.lemmas.List.Folds.{flat_map-map}
use Rattle.arrow_types.specs.Select.{select, nat_of, first_number}
use Rattle.arrow_types.specs.TypeData.{TypeData, FieldList, no_fields, and_field}
use Rattle.arrow_types.specs.TypeData as T
use Rattle.arrow_types.specs.declared.datatype.UnionMode.TheVariants.{Dense, Sparse}
use Rattle.arrow_flat.specs.Slots.{Slot, null, chosen, list_of_slots}
use Rattle.arrow_layout.specs.Canon.{canon, number_chosen, inner_or, inner_if, counts_after, dense_offsets, canon_chosen, canon_dense}
use Rattle.arrow_layout.specs.Denote.{denote, columns, sparse_slots, dense_slots, first_slot}
use Rattle.arrow_layout.specs.Forms.{form_of, unions_of, ids_by}
use Rattle.arrow_layout.specs.Layouts.{Layout, sparse_unions, dense_unions, Layouts, no_layouts, child, lengths_of}
use Rattle.arrow_layout.specs.SlotsOf.{fill, fills}
use Rattle.arrow_layout.specs.WellFormed.{AreWellFormed, HaveTypes, AllNamed, positions}
use Rattle.arrow_layout.proofs.Back.{get_dropped}
use Rattle.arrow_layout.proofs.ByForm.{canon-form, fill-form}
use Rattle.arrow_layout.proofs.Lengths.{length-denote}
use Rattle.arrow_flat.proofs.Lists.{map-map}
use Rattle.arrow_canon.specs.Picks.{pick, picks, picked, IsPlace, ArePlaces}
use Rattle.arrow_items.proofs.KeptPlaces.{flat_map_on, map-flat_map, map_at}
use Rattle.arrow_items.specs.Unions.{sparse_place, dense_places, children_by, sparse_picked, dense_picked}
use Rattle.arrow_canon.proofs.Picked.{map_on}

-- ---- one slot of a union
first_is : (xs : List Slot) → first_slot xs ≡ get_or xs 0 null
first_is [] = refl
first_is (x ∷ xs) = refl

next_is : (xs : List Slot) (i : ℕ) → get_or (drop 1 xs) i null ≡ get_or xs (suc i) null
next_is [] i = refl
next_is (x ∷ xs) i = refl

pub sparse_at : (sel : ℕ → ℕ) (ts : List ℕ) (cols : List (List Slot)) (i : ℕ) (d : Slot) → i < length ts
    → get_or (sparse_slots sel ts cols) i d ≡ chosen (get_or ts i 0) (get_or (get_or cols (sel (get_or ts i 0)) []) i null)
sparse_at sel [] cols i d h = absurd (omega (arith, h))
sparse_at sel (t ∷ ts) cols zero d h = ap (chosen t) (first_is (get_or cols (sel t) []))
sparse_at sel (t ∷ ts) cols (suc i) d h =
    sparse_at sel ts (map (drop 1) cols) i d (omega (arith, h))
    ∙ ap (chosen (get_or ts i 0)) (ap (λ xs. get_or xs i null) (get_dropped cols (sel (get_or ts i 0))) ∙ next_is (get_or cols (sel (get_or ts i 0)) []) i)

pub dense_at : (sel : ℕ → ℕ) (ts os : List ℕ) (cols : List (List Slot)) (i : ℕ) (d : Slot) → i < length ts → length os ≡ length ts
    → get_or (dense_slots sel ts os cols) i d ≡ chosen (get_or ts i 0) (get_or (get_or cols (sel (get_or ts i 0)) []) (get_or os i 0) null)
dense_at sel [] os cols i d h e = absurd (omega (arith, h))
dense_at sel (t ∷ ts) [] cols i d h e = absurd (omega (arith, e))
dense_at sel (t ∷ ts) (o ∷ os) cols zero d h e = refl
dense_at sel (t ∷ ts) (o ∷ os) cols (suc i) d h e = dense_at sel ts os cols i d (omega (arith, h)) (omega (arith, e))

-- a slot of a column after the shift
shifted_at : (o : ℕ) (xs : List Slot) (i : ℕ) (d : Slot) → o + i < length xs → get_or (drop o xs) i null ≡ get_or xs (o + i) d
shifted_at zero [] i d h = absurd (omega (arith, h))
shifted_at zero (x ∷ xs) i d h = let e : 0 + i ≡ i = omega arith in here (x ∷ xs) i (omega (arith, h)) ∙ sym (ap (λ k. get_or (x ∷ xs) k d) e) where
  here : (ys : List Slot) (i : ℕ) → i < length ys → get_or ys i null ≡ get_or ys i d
  here [] i h = absurd (omega (arith, h))
  here (y ∷ ys) zero h = refl
  here (y ∷ ys) (suc i) h = here ys i (omega (arith, h))
shifted_at (suc o) [] i d h = absurd (omega (arith, h))
shifted_at (suc o) (x ∷ xs) i d h =
    let e : suc o + i ≡ suc (o + i) = omega arith in
    shifted_at o xs i d (omega (arith, h)) ∙ sym (ap (λ k. get_or (x ∷ xs) k d) e)

pub within_at : (xs : List Slot) (i : ℕ) (d : Slot) → i < length xs → get_or xs i null ≡ get_or xs i d
within_at [] i d h = absurd (omega (arith, h))
within_at (x ∷ xs) zero d h = refl
within_at (x ∷ xs) (suc i) d h = within_at xs i d (omega (arith, h))

pub natural_at : (ns : List ℕ) (i d : ℕ) → i < length ns → get_or ns i 0 ≡ get_or ns i d
natural_at [] i d h = absurd (omega (arith, h))
natural_at (n ∷ ns) zero d h = refl
natural_at (n ∷ ns) (suc i) d h = natural_at ns i d (omega (arith, h))

column_dropped : (o : ℕ) (cs : List (List Slot)) (j : ℕ) → get_or (map (drop o) cs) j [] ≡ drop o (get_or cs j [])
column_dropped o [] j = none o where
  none : (o : ℕ) → ◌≡◌ {A = List Slot} [] (drop o [])
  none zero = refl
  none (suc o) = refl
column_dropped o (c ∷ cs) zero = refl
column_dropped o (c ∷ cs) (suc j) = column_dropped o cs j

pub field_is : (sel : ℕ → ℕ) (ns : List ℕ) (number : ℕ) (p : Option ℕ) → IsPlace (length ns) p → sel (pick number ns p) ≡ pick (sel number) (map sel ns) p
field_is sel ns number None k = refl
field_is sel ns number (Some i) k = sym (map_at sel ns i number (sel number) k)

-- ---- the children of a sparse union
module _ (sel : ℕ → ℕ) (ts : List ℕ) (o : ℕ) (number : ℕ) (y : Slot) (cols : List (List Slot)) where
  -- the slot at a place: y stands in the field that the number selects
  abbrev pub union_slot : Option ℕ → Slot
  union_slot None = chosen number y
  union_slot (Some i) = chosen (get_or ts i 0) (get_or (get_or cols (sel (get_or ts i 0)) []) i null)

  filled_by : (j i : ℕ) (b : Bool) (x d : Slot) → nat_eq i j ≡ b → (i ≡ j → x ≡ d) → cond b x d ≡ d
  filled_by j i true x d e f = f (eqb-true i j e)
  filled_by j i false x d e f = refl

  inner_by : (l : Layout) (d : Slot) (j k i : ℕ) (b : Bool) → nat_eq k j ≡ b → get_or cols j [] ≡ drop o (denote l) → o + i < length (denote l)
      → cond b (get_or (get_or cols k []) i null) d ≡ pick d (denote l) (cond b (Some (o + i)) None)
  inner_by l d j k i true e at low =
      let same : k ≡ j = eqb-true k j e in
      ap (λ n. get_or (get_or cols n []) i null) same ∙ ap (λ xs. get_or xs i null) at ∙ shifted_at o (denote l) i d low
  inner_by l d j k i false e at low = refl

  inner_at : (l : Layout) (d : Slot) (j : ℕ) → get_or cols j [] ≡ drop o (denote l) → o + length ts ≤ length (denote l) → (sel number ≡ j → y ≡ d) → (p : Option ℕ) → IsPlace (length ts) p
      → inner_or sel d j (union_slot p) ≡ pick d (denote l) (sparse_place (map sel ts) o j p)
  inner_at l d j at long f None h = filled_by j (sel number) (nat_eq (sel number) j) y d refl f
  inner_at l d j at long f (Some i) h =
      let field : get_or (map sel ts) i 0 ≡ sel (get_or ts i 0) = map_at sel ts i 0 0 h in
      inner_by l d j (sel (get_or ts i 0)) i (nat_eq (sel (get_or ts i 0)) j) refl at (omega (arith, long, h))
      ∙ ap (λ k. pick d (denote l) (cond (nat_eq k j) (Some (o + i)) None)) (sym field)

  pub sparse_children_canon : (fs : FieldList) (ls : Layouts) (j : ℕ) (ps : List (Option ℕ)) → HaveTypes fs ls → AreWellFormed (λ n. o + length ts ≤ n) ls
      → ((i : ℕ) → get_or cols (j + i) [] ≡ drop o (get_or (columns ls) i [])) → ((i : ℕ) → sel number ≡ j + i → y ≡ get_or (list_of_slots (fills fs)) i null) → ArePlaces (length ts) ps
      → canon_chosen sel fs j (map union_slot ps) ≡ children_by (λ k. map (sparse_place (map sel ts) o k) ps) ls j
  sparse_children_canon no_fields no_layouts j ps h w at f within = refl
  sparse_children_canon no_fields (child l ls) j ps h w at f within = absurd h
  sparse_children_canon (and_field g fs) no_layouts j ps h w at f within = absurd h
  sparse_children_canon (and_field (T.field name t b m) fs) (child l ls) j ps h w at f within =
      let zero_on : j + 0 ≡ j = omega arith in
      let here : get_or cols j [] ≡ drop o (denote l) = ap (λ k. get_or cols k []) (sym zero_on) ∙ at 0 in
      let long : o + length ts ≤ length (denote l) = omega (arith, length-denote l w.1, w.0) in
      let slots : map (inner_or sel (fill t) j) (map union_slot ps) ≡ picks (fill t) (denote l) (map (sparse_place (map sel ts) o j) ps) =
      map-map (inner_or sel (fill t) j) union_slot ps
      ∙ map_on (IsPlace (length ts)) (λ p. inner_or sel (fill t) j (union_slot p)) (λ p. pick (fill t) (denote l) (sparse_place (map sel ts) o j p)) (inner_at l (fill t) j here long (λ e. f 0 (e ∙ sym zero_on))) ps within
      ∙ sym (map-map (pick (fill t) (denote l)) (sparse_place (map sel ts) o j) ps) in
      let next : (i : ℕ) → suc j + i ≡ j + suc i = λ i. omega arith in
      ap₂ child
      (ap (canon t) slots ∙ ap (λ u. canon u (picks (fill u) (denote l) (map (sparse_place (map sel ts) o j) ps))) h.0)
      (sparse_children_canon fs ls (suc j) ps h.1 w.2 (λ i. ap (λ k. get_or cols k []) (next i) ∙ at (suc i)) (λ i e. f (suc i) (e ∙ next i)) within)

-- the canonical layouts by the ids
abbrev sparse_by : TypeData → ℕ → List ℤ → Layouts → List (Option ℕ) → Option (List ℤ) → Layout
sparse_by t o ts ls ps ids =
    let fields = map (select ids) (map nat_of ts) in
    sparse_unions t 0 (map pos (map (pick (first_number ids) (map nat_of ts)) ps)) (children_by (λ j. map (sparse_place fields o j) ps) ls 0)

abbrev dense_by : TypeData → List ℤ → List ℤ → Layouts → List (Option ℕ) → Option (List ℤ) → Layout
dense_by t ts os ls ps ids =
    let fields = map (select ids) (map nat_of ts) in
    let first = select ids (first_number ids) in
    dense_unions t 0 (map pos (map (pick (first_number ids) (map nat_of ts)) ps)) (map pos (counts_after [] (map (pick first fields) ps)))
    (children_by (λ j. flat_map (dense_places fields (map nat_of os) first j) ps) ls 0)

pub sparse_canon : (t u : TypeData) (ids : Option (List ℤ)) (fs : FieldList) (o : ℕ) (ts : List ℤ) (ls : Layouts) (ps : List (Option ℕ)) → form_of t ≡ unions_of Sparse ids fs → form_of u ≡ unions_of Sparse ids fs
    → HaveTypes fs ls → AreWellFormed (λ n. o + length ts ≤ n) ls → ArePlaces (length ts) ps
    → canon t (picked t (sparse_unions u o ts ls) ps) ≡ sparse_picked t o ts ls ps
sparse_canon t u ids fs o ts ls ps e g h w within =
    let sel = select ids in
    let ns = map nat_of ts in
    let many : length ns ≡ length ts = length-map ts nat_of in
    let inside : ArePlaces (length ns) ps = subst (λ k. ArePlaces k ps) (sym many) within in
    let cols = map (drop o) (columns ls) in
    let number = first_number ids in
    let y = get_or (list_of_slots (fills fs)) (sel number) null in
    let filling : fill t ≡ chosen number y = fill-form t (unions_of Sparse ids fs) e in
    let f = union_slot sel ns o number y cols in
    let slots : picked t (sparse_unions u o ts ls) ps ≡ map f ps =
    ap (λ k. picks (fill t) (sparse_slots (select (ids_by k)) ns cols) ps) g
    ∙ map_on (IsPlace (length ns)) (pick (fill t) (sparse_slots sel ns cols)) f (slot_is sel ns cols number y o (fill t) filling) ps inside in
    ap (canon t) slots ∙ canon-form t (unions_of Sparse ids fs) (map f ps) e
    ∙ ap₂ (sparse_unions t 0)
    (map-map (λ x. pos (number_chosen x)) f ps
    ∙ map_on (IsPlace (length ns)) (λ p. pos (number_chosen (f p))) (λ p. pos (pick number ns p)) (λ p k. ap pos (number_is sel ns o number y cols p k)) ps inside ∙ sym (map-map pos (pick number ns) ps))
    (sparse_children_canon sel ns o number y cols fs ls 0 ps h (subst (λ k. AreWellFormed (λ n. o + k ≤ n) ls) (sym many) w)
    (λ i. ap (λ k. get_or cols k []) (zero_and i) ∙ column_dropped o (columns ls) i) (λ i k. ap (λ n. get_or (list_of_slots (fills fs)) n null) (k ∙ zero_and i)) inside)
    ∙ ap (sparse_by t o ts ls ps) (sym (ap ids_by e))
  where
    zero_and : (i : ℕ) → 0 + i ≡ i
    zero_and i = omega arith

    slot_is : (sel : ℕ → ℕ) (ns : List ℕ) (cols : List (List Slot)) (number : ℕ) (y : Slot) (o : ℕ) (d : Slot) → d ≡ chosen number y → (p : Option ℕ) → IsPlace (length ns) p
        → pick d (sparse_slots sel ns cols) p ≡ union_slot sel ns o number y cols p
    slot_is sel ns cols number y o d e None k = e
    slot_is sel ns cols number y o d e (Some i) k = sparse_at sel ns cols i d k

    number_is : (sel : ℕ → ℕ) (ns : List ℕ) (o number : ℕ) (y : Slot) (cols : List (List Slot)) (p : Option ℕ) → IsPlace (length ns) p → number_chosen (union_slot sel ns o number y cols p) ≡ pick number ns p
    number_is sel ns o number y cols None k = refl
    number_is sel ns o number y cols (Some i) k = natural_at ns i number k

-- ---- the children of a dense union
pub named_at : (lens is os : List ℕ) (i : ℕ) → AllNamed lens is os → i < length is → get_or os i 0 < get_or lens (get_or is i 0) 0
named_at lens [] os i h k = absurd (omega (arith, k))
named_at lens (n ∷ is) [] i h k = absurd h
named_at lens (n ∷ is) (o ∷ os) zero h k = h.0
named_at lens (n ∷ is) (o ∷ os) (suc i) h k = named_at lens is os i h.1 (omega (arith, k))

module _ (sel : ℕ → ℕ) (ts os : List ℕ) (number : ℕ) (y : Slot) (cols : List (List Slot)) (lens : List ℕ) where
  abbrev pub dense_slot : Option ℕ → Slot
  dense_slot None = chosen number y
  dense_slot (Some i) = chosen (get_or ts i 0) (get_or (get_or cols (sel (get_or ts i 0)) []) (get_or os i 0) null)

  fill_by : (d : Slot) (xs : List Slot) (j k : ℕ) (b : Bool) → nat_eq k j ≡ b → (k ≡ j → y ≡ d) → cond b (y ∷ []) [] ≡ picks d xs (cond b (None ∷ []) [])
  fill_by d xs j k true e f = ap (λ z. z ∷ []) (f (eqb-true k j e))
  fill_by d xs j k false e f = refl

  item_by : (d : Slot) (xs : List Slot) (j k o : ℕ) (b : Bool) → nat_eq k j ≡ b → get_or cols j [] ≡ xs → (k ≡ j → o < length xs)
      → cond b (get_or (get_or cols k []) o null ∷ []) [] ≡ picks d xs (cond b (Some o ∷ []) [])
  item_by d xs j k o true e at low =
      let same : k ≡ j = eqb-true k j e in
      ap (λ z. z ∷ []) (ap (λ n. get_or (get_or cols n []) o null) same ∙ ap (λ ys. get_or ys o null) at ∙ within_at xs o d (low same))
  item_by d xs j k o false e at low = refl

  dense_inner_at : (l : Layout) (d : Slot) (j : ℕ) → get_or cols j [] ≡ denote l → get_or lens j 0 ≡ length (denote l) → AllNamed lens (map sel ts) os → (sel number ≡ j → y ≡ d)
      → (p : Option ℕ) → IsPlace (length ts) p → inner_if sel j (dense_slot p) ≡ picks d (denote l) (dense_places (map sel ts) os (sel number) j p)
  dense_inner_at l d j at size named f None h = fill_by d (denote l) j (sel number) (nat_eq (sel number) j) refl f
  dense_inner_at l d j at size named f (Some i) h =
      let field : get_or (map sel ts) i 0 ≡ sel (get_or ts i 0) = map_at sel ts i 0 0 h in
      let low : sel (get_or ts i 0) ≡ j → get_or os i 0 < length (denote l) = λ e.
      let there = named_at lens (map sel ts) os i named (omega (arith, h, length-map ts sel)) in
      let which : get_or lens (get_or (map sel ts) i 0) 0 ≡ length (denote l) = ap (λ k. get_or lens k 0) (field ∙ e) ∙ size in
      omega (arith, there, which) in
      item_by d (denote l) j (sel (get_or ts i 0)) (get_or os i 0) (nat_eq (sel (get_or ts i 0)) j) refl at low
      ∙ ap (λ k. picks d (denote l) (cond (nat_eq k j) (Some (get_or os i 0) ∷ []) [])) (sym field)

  pub dense_children_canon : (fs : FieldList) (ls : Layouts) (j : ℕ) (ps : List (Option ℕ)) → HaveTypes fs ls → AreWellFormed (λ n. 0 ≤ n) ls
      → ((i : ℕ) → get_or cols (j + i) [] ≡ get_or (columns ls) i []) → ((i : ℕ) → get_or lens (j + i) 0 ≡ get_or (lengths_of ls) i 0)
      → ((i : ℕ) → sel number ≡ j + i → y ≡ get_or (list_of_slots (fills fs)) i null) → AllNamed lens (map sel ts) os → ArePlaces (length ts) ps
      → canon_dense sel fs j (map dense_slot ps) ≡ children_by (λ k. flat_map (dense_places (map sel ts) os (sel number) k) ps) ls j
  dense_children_canon no_fields no_layouts j ps h w at size f named within = refl
  dense_children_canon no_fields (child l ls) j ps h w at size f named within = absurd h
  dense_children_canon (and_field g fs) no_layouts j ps h w at size f named within = absurd h
  dense_children_canon (and_field (T.field name t b m) fs) (child l ls) j ps h w at size f named within =
      let zero_on : j + 0 ≡ j = omega arith in
      let here : get_or cols j [] ≡ denote l = ap (λ k. get_or cols k []) (sym zero_on) ∙ at 0 in
      let many : get_or lens j 0 ≡ length (denote l) = ap (λ k. get_or lens k 0) (sym zero_on) ∙ size 0 ∙ sym (length-denote l w.1) in
      let places_j = dense_places (map sel ts) os (sel number) j in
      let slots : flat_map (inner_if sel j) (map dense_slot ps) ≡ picks (fill t) (denote l) (flat_map places_j ps) =
      flat_map-map (inner_if sel j) dense_slot ps
      ∙ flat_map_on (IsPlace (length ts)) (λ p. inner_if sel j (dense_slot p)) (λ p. picks (fill t) (denote l) (places_j p)) (dense_inner_at l (fill t) j here many named (λ e. f 0 (e ∙ sym zero_on))) ps within
      ∙ sym (map-flat_map (pick (fill t) (denote l)) places_j ps) in
      let next : (i : ℕ) → suc j + i ≡ j + suc i = λ i. omega arith in
      ap₂ child
      (ap (canon t) slots ∙ ap (λ u. canon u (picks (fill u) (denote l) (flat_map places_j ps))) h.0)
      (dense_children_canon fs ls (suc j) ps h.1 w.2 (λ i. ap (λ k. get_or cols k []) (next i) ∙ at (suc i)) (λ i. ap (λ k. get_or lens k 0) (next i) ∙ size (suc i)) (λ i e. f (suc i) (e ∙ next i)) named within)

pub dense_canon : (t u : TypeData) (ids : Option (List ℤ)) (fs : FieldList) (ts os : List ℤ) (ls : Layouts) (ps : List (Option ℕ)) → form_of t ≡ unions_of Dense ids fs → form_of u ≡ unions_of Dense ids fs
    → HaveTypes fs ls → AreWellFormed (λ n. 0 ≤ n) ls → AllNamed (lengths_of ls) (positions t ts) (map nat_of os) → length os ≡ length ts → ArePlaces (length ts) ps
    → canon t (picked t (dense_unions u 0 ts os ls) ps) ≡ dense_picked t ts (map nat_of os) ls ps
dense_canon t u ids fs ts os ls ps e g h w named same within =
    let sel = select ids in
    let ns = map nat_of ts in
    let places_in = map nat_of os in
    let there : AllNamed (lengths_of ls) (map sel ns) places_in = subst (λ k. AllNamed (lengths_of ls) (map (select k) ns) places_in) (ap ids_by e) named in
    let many : length ns ≡ length ts = length-map ts nat_of in
    let inside : ArePlaces (length ns) ps = subst (λ k. ArePlaces k ps) (sym many) within in
    let level : length places_in ≡ length ns = length-map os nat_of ∙ same ∙ sym many in
    let cols = columns ls in
    let lens = lengths_of ls in
    let number = first_number ids in
    let y = get_or (list_of_slots (fills fs)) (sel number) null in
    let filling : fill t ≡ chosen number y = fill-form t (unions_of Dense ids fs) e in
    let f = dense_slot sel ns places_in number y cols lens in
    let slots : picked t (dense_unions u 0 ts os ls) ps ≡ map f ps =
    ap (λ k. picks (fill t) (dense_slots (select (ids_by k)) ns places_in cols) ps) g
    ∙ map_on (IsPlace (length ns)) (pick (fill t) (dense_slots sel ns places_in cols)) f (slot_is sel ns places_in cols lens number y (fill t) filling level) ps inside in
    let numbers_of : map number_chosen (map f ps) ≡ map (pick number ns) ps =
    map-map number_chosen f ps ∙ map_on (IsPlace (length ns)) (λ p. number_chosen (f p)) (pick number ns) (number_is sel ns places_in cols lens number y) ps inside in
    let fields_of : map sel (map (pick number ns) ps) ≡ map (pick (sel number) (map sel ns)) ps =
    map-map sel (pick number ns) ps ∙ map_on (IsPlace (length ns)) (λ p. sel (pick number ns p)) (pick (sel number) (map sel ns)) (field_is sel ns number) ps inside in
    ap (canon t) slots ∙ canon-form t (unions_of Dense ids fs) (map f ps) e
    ∙ ap (λ zs. dense_unions t 0 zs (dense_offsets sel (map f ps)) (canon_dense sel fs 0 (map f ps))) (sym (map-map pos number_chosen (map f ps)) ∙ ap (map pos) numbers_of)
    ∙ ap₂ (dense_unions t 0 (map pos (map (pick number ns) ps)))
    (ap (λ zs. map pos (counts_after [] zs)) (ap (map sel) numbers_of ∙ fields_of))
    (dense_children_canon sel ns places_in number y cols lens fs ls 0 ps h w (λ i. ap (λ k. get_or cols k []) (zero_and i)) (λ i. ap (λ k. get_or lens k 0) (zero_and i))
    (λ i k. ap (λ n. get_or (list_of_slots (fills fs)) n null) (k ∙ zero_and i)) there inside)
    ∙ ap (dense_by t ts os ls ps) (sym (ap ids_by e))
  where
    zero_and : (i : ℕ) → 0 + i ≡ i
    zero_and i = omega arith

    slot_is : (sel : ℕ → ℕ) (ns os : List ℕ) (cols : List (List Slot)) (lens : List ℕ) (number : ℕ) (y d : Slot) → d ≡ chosen number y → length os ≡ length ns → (p : Option ℕ) → IsPlace (length ns) p
        → pick d (dense_slots sel ns os cols) p ≡ dense_slot sel ns os number y cols lens p
    slot_is sel ns os cols lens number y d e l None k = e
    slot_is sel ns os cols lens number y d e l (Some i) k = dense_at sel ns os cols i d k l

    number_is : (sel : ℕ → ℕ) (ns os : List ℕ) (cols : List (List Slot)) (lens : List ℕ) (number : ℕ) (y : Slot) (p : Option ℕ) → IsPlace (length ns) p → number_chosen (dense_slot sel ns os number y cols lens p) ≡ pick number ns p
    number_is sel ns os cols lens number y None k = refl
    number_is sel ns os cols lens number y (Some i) k = natural_at ns i number k
