-- What is appended of the slots that runs pick out of a node of lists, fixed-size lists or structs.
use Rattle.std.proofs.Common.{◌≡◌, ℕ, zero, suc, pred, ◌+◌, ◌-◌, ◌*◌, ◌<◌, ◌≤◌, ◌^◌, ℤ, Bool, true, false, List, [], ◌∷◌, ◌++◌, length, map, flat_map, sum, refl, ap, ap₂, sym, ◌∙◌, subst, arith, Option, Some, None, Result, Ok, Err, IfOk, OnOk, pos}
use Rattle.std.proofs.Common.{◌⊎◌, inl, inr}
use Rattle.std.specs.Prelude.{⊤}
use Rattle.std.specs.List.{AllByRecursion}
use Rattle.std.proofs.lemmas.List.{length-map}
use Rattle.arrow_types.specs.Carried.{IsBelow}
use Rattle.arrow_types.specs.Select.{nat_of}
use Rattle.arrow_types.specs.TypeData.{TypeData}
use Rattle.arrow_types.specs.declared.error.GrowError.{GrowError}
use Rattle.arrow_types.specs.declared.datatype.UnionMode.TheVariants.{Dense, Sparse}
use Rattle.arrow_buffers.specs.Bits.{Bits}
use Rattle.arrow_flat.specs.Slots.{Slot}
use Rattle.arrow_layout.specs.Canon.{canon, items_or, offsets, sums_from}
use Rattle.std.proofs.Common.{replicate}
use Rattle.std.proofs.Math.Nat.{mul-le-mul_left}
use Rattle.std.proofs.lemmas.Grind.{flat_map-append}
use Rattle.arrow_layout.specs.Denote.{denote}
use Rattle.arrow_layout.specs.Fits.{Fits}
use Rattle.arrow_layout.specs.Forms.{Form, form_of, lists_of, fixed_size_lists_of, structs_of, unions_of, large_by, fields_by, offset_limit}
use Rattle.arrow_layout.specs.Layouts.{Layout, lists, fixed_size_lists, structs, Layouts, type_of, length_of}
use Rattle.arrow_layout.specs.SlotsOf.{fill}
use Rattle.arrow_layout.specs.WellFormed.{WellFormed}
use Rattle.arrow_layout.proofs.ByForm.{canon_by, canon-form}
use Rattle.arrow_layout.proofs.CanonLengths.{length-canon}
use Rattle.arrow_canon.proofs.Counts.{count_fits}
use Rattle.arrow_canon.specs.Picks.{pick, picked}
use Rattle.arrow_canon.specs.Runs.{AreWithin, places}
use Rattle.arrow_canon.specs.declared.run.Run.{Run}
use Rattle.arrow_items.specs.Items.{chunk_places, item_count, kept_places}
use Rattle.arrow_items.proofs.ByKind.{sum_below}
use Rattle.arrow_grow_flat.specs.Grown.{Room, copied}
use Rattle.arrow_growable.specs.ChildRuns.{AreChildRuns, AreChunkRuns, AreListRuns, AreStructRuns}
use Rattle.arrow_growable.specs.Parts.{first_column, AreOfForm, HasParts, PartsFit, repeated, widths}
use Rattle.arrow_growable.specs.Taken.{HaveTaken, HaveNoRoom, taken}
use Rattle.arrow_growable.specs.declared.child_runs.ChildRuns.{ChildRuns}
use Rattle.arrow_growable.specs.declared.parts.NestedParts.{NestedParts}
use Rattle.arrow_growable.specs.declared.parts.NestedParts.TheVariants as parts_of
use Rattle.arrow_growable.proofs.ColumnSlots.{columns_copied}
use Rattle.arrow_growable.proofs.Ends.{ends_below}
use Rattle.arrow_growable.proofs.PartLayouts.{room_columns}
use Rattle.arrow_growable.proofs.TakenParts.{chunk_columns, chunk_runs, length_more, list_ends, list_runs, struct_runs, widths_more}

-- ---- room

pub room_count : (t : TypeData) (s : List Slot) → Room t s → length s < 2 ^ 64
room_count t s h = subst (λ n. n < 2 ^ 64) (length-canon t s) (count_fits (canon t s) h)

lists_low : (t : TypeData) (large : Bool) (u : TypeData) (s : List Slot) → form_of t ≡ lists_of large u → Room t s → sum (widths s) < offset_limit (form_of t)
lists_low t large u s e h =
    let f : Fits (canon_by t (lists_of large u) s) = subst Fits (canon-form t (lists_of large u) s e) h in
    let low = sum_below (offset_limit (form_of t)) 0 (widths s) f.1.0 f.1.1 in
    omega (arith, low)

-- ---- lists

-- what is known of the parts p and q of lists with these offsets
pub record AreLists (limit : ℕ) (old new raw : List ℤ) (p q : NestedParts) : Type 0 where
  pub count : length new ≡ length raw
  pub ends : (f : Form) (s : List Slot) → HasParts f s p → old ≡ offsets (widths s)
  pub again : (f : Form) (s r : List Slot) → HasParts f s p → new ≡ offsets (widths r) → HasParts f r q
  pub fit : (t : TypeData) → pred (length new) < 2 ^ 64 → AllByRecursion (IsBelow (offset_limit (form_of t))) new → PartsFit t q
  pub low : (f : Form) (s : List Slot) → HasParts f s p → offset_limit f ≡ limit

pub small_lists : (old new : List ℤ) → AreLists (2 ^ 31) (map (λ o. o) old) (map (λ o. o) new) new (parts_of.List old) (parts_of.List new)
small_lists old new = record { count = length-map new (λ o. o); ends = ends; again = again; fit = λ t a b. (a, b); low = low } where
  ends : (f : Form) (s : List Slot) → HasParts f s (parts_of.List old) → map (λ o. o) old ≡ offsets (widths s)
  ends (lists_of false u) s h = h
  ends (unions_of Sparse ids fs) s h = absurd h
  ends (unions_of Dense ids fs) s h = absurd h
  ends _ s h = absurd h

  again : (f : Form) (s r : List Slot) → HasParts f s (parts_of.List old) → map (λ o. o) new ≡ offsets (widths r) → HasParts f r (parts_of.List new)
  again (lists_of false u) s r h e = e
  again (unions_of Sparse ids fs) s r h e = absurd h
  again (unions_of Dense ids fs) s r h e = absurd h
  again _ s r h e = absurd h

  low : (f : Form) (s : List Slot) → HasParts f s (parts_of.List old) → offset_limit f ≡ 2 ^ 31
  low (lists_of false u) s h = refl
  low (unions_of Sparse ids fs) s h = absurd h
  low (unions_of Dense ids fs) s h = absurd h
  low _ s h = absurd h

pub map_lists : (old new : List ℤ) → AreLists (2 ^ 31) (map (λ o. o) old) (map (λ o. o) new) new (parts_of.Map old) (parts_of.Map new)
map_lists old new = record { count = length-map new (λ o. o); ends = ends; again = again; fit = λ t a b. (a, b); low = low } where
  ends : (f : Form) (s : List Slot) → HasParts f s (parts_of.Map old) → map (λ o. o) old ≡ offsets (widths s)
  ends (lists_of false u) s h = h
  ends (unions_of Sparse ids fs) s h = absurd h
  ends (unions_of Dense ids fs) s h = absurd h
  ends _ s h = absurd h

  again : (f : Form) (s r : List Slot) → HasParts f s (parts_of.Map old) → map (λ o. o) new ≡ offsets (widths r) → HasParts f r (parts_of.Map new)
  again (lists_of false u) s r h e = e
  again (unions_of Sparse ids fs) s r h e = absurd h
  again (unions_of Dense ids fs) s r h e = absurd h
  again _ s r h e = absurd h

  low : (f : Form) (s : List Slot) → HasParts f s (parts_of.Map old) → offset_limit f ≡ 2 ^ 31
  low (lists_of false u) s h = refl
  low (unions_of Sparse ids fs) s h = absurd h
  low (unions_of Dense ids fs) s h = absurd h
  low _ s h = absurd h

pub large_lists : (old new : List ℤ) → AreLists (2 ^ 63) (map (λ o. o) old) (map (λ o. o) new) new (parts_of.LargeList old) (parts_of.LargeList new)
large_lists old new = record { count = length-map new (λ o. o); ends = ends; again = again; fit = λ t a b. (a, b); low = low } where
  ends : (f : Form) (s : List Slot) → HasParts f s (parts_of.LargeList old) → map (λ o. o) old ≡ offsets (widths s)
  ends (lists_of true u) s h = h
  ends (unions_of Sparse ids fs) s h = absurd h
  ends (unions_of Dense ids fs) s h = absurd h
  ends _ s h = absurd h

  again : (f : Form) (s r : List Slot) → HasParts f s (parts_of.LargeList old) → map (λ o. o) new ≡ offsets (widths r) → HasParts f r (parts_of.LargeList new)
  again (lists_of true u) s r h e = e
  again (unions_of Sparse ids fs) s r h e = absurd h
  again (unions_of Dense ids fs) s r h e = absurd h
  again _ s r h e = absurd h

  low : (f : Form) (s : List Slot) → HasParts f s (parts_of.LargeList old) → offset_limit f ≡ 2 ^ 63
  low (lists_of true u) s h = refl
  low (unions_of Sparse ids fs) s h = absurd h
  low (unions_of Dense ids fs) s h = absurd h
  low _ s h = absurd h

module _ (l : Layout) (t : TypeData) (m k : Option Bits) (os : List ℤ) (c : Layout) (rs : List Run) (g : l ≡ lists t m os c) (e : k ≡ m) (w : WellFormed l) (within : AreWithin (length_of l) rs) where
  here : WellFormed (lists t m os c)
  here = subst WellFormed g w

  inside : AreWithin (pred (length os)) rs
  inside = subst (λ x. AreWithin (length_of x) rs) g within

  of_form : form_of (type_of l) ≡ lists_of (large_by (form_of t)) (type_of c)
  of_form = ap (λ x. form_of (type_of x)) g ∙ here.0.of_form

  abbrev pub piece : List ℕ
  piece = map (item_count (map nat_of os)) (kept_places k (places rs))

  -- the runs of the items
  pub list_node_runs : (r : Result ChildRuns GrowError) → IfOk r (AreListRuns (map nat_of os) k rs) → IfOk r (AreChildRuns l rs)
  list_node_runs (Ok x) h =
      subst (λ y. AreChildRuns y rs x) (sym g) (list_runs t m os c rs here inside x (subst (λ b. AreListRuns (map nat_of os) b rs x) e h))
  list_node_runs (Err x) h = tt

  pieces_are : offsets piece ≡ offsets (widths (picked (type_of l) l (places rs)))
  pieces_are =
      ap (λ b. offsets (map (item_count (map nat_of os)) (kept_places b (places rs)))) e ∙ list_ends t m os c rs here inside
      ∙ ap (λ x. offsets (widths (picked (type_of x) x (places rs)))) (sym g)

  module _ (n limit : ℕ) (old new raw : List ℤ) (p q : NestedParts) (are : AreLists limit old new raw p q) where
    -- the ends of the lists with those that are appended
    pub list_node_taken : (r : Result ChildRuns GrowError) → OnOk r ((ns ms : List ℕ) → old ≡ offsets ns → offsets piece ≡ offsets ms → new ≡ offsets (ns ++ repeated n ms))
        → OnOk r ((ns ms : List ℕ) → old ≡ offsets ns → offsets piece ≡ offsets ms → sum (ns ++ repeated n ms) < limit) → OnOk r (pred (length raw) < 2 ^ 64) → OnOk r (HaveTaken l rs n p q)
    list_node_taken (Ok x) grows low few = λ s h.
        let xs = picked (type_of l) l (places rs) in
        let was = are.ends (form_of (type_of l)) s h in
        let more : widths s ++ repeated n (widths xs) ≡ widths (s ++ copied n xs) = sym (widths_more s xs n) in
        let now : new ≡ offsets (widths (s ++ copied n xs)) = grows (widths s) (widths xs) was pieces_are ∙ ap offsets more in
        let top : sum (widths (s ++ copied n xs)) < offset_limit (form_of (type_of l)) =
        subst (λ i. sum (widths (s ++ copied n xs)) < i) (sym (are.low (form_of (type_of l)) s h)) (subst (λ ns. sum ns < limit) more (low (widths s) (widths xs) was pieces_are)) in
        let below = ends_below (offset_limit (form_of (type_of l))) (widths (s ++ copied n xs)) top in
        (are.again (form_of (type_of l)) s (s ++ copied n xs) h now, are.fit (type_of l) (omega (arith, few, are.count)) (subst (AllByRecursion (IsBelow (offset_limit (form_of (type_of l))))) (sym now) below))
    list_node_taken (Err x) grows low few = tt

    -- offsets past their range
    pub list_node_full : ((ns ms : List ℕ) → old ≡ offsets ns → offsets piece ≡ offsets ms → limit ≤ sum (ns ++ repeated n ms)) → HaveNoRoom l rs n p
    list_node_full past = λ s h room.
        let xs = picked (type_of l) l (places rs) in
        let was = are.ends (form_of (type_of l)) s h in
        let high = past (widths s) (widths xs) was pieces_are in
        let low = lists_low (type_of l) (large_by (form_of t)) (type_of c) (s ++ copied n xs) of_form room in
        omega (arith, high, low, are.low (form_of (type_of l)) s h, ap sum (widths_more s xs n))

-- ---- counts

count_of_chunks : (f : Form) (s : List Slot) (j n : ℕ) → HasParts f s (parts_of.FixedSizeList j n) → n ≡ length s
count_of_chunks (fixed_size_lists_of k u) s j n h = h.1
count_of_chunks (lists_of false u) s j n h = absurd h
count_of_chunks (lists_of true u) s j n h = absurd h
count_of_chunks (unions_of Sparse ids fs) s j n h = absurd h
count_of_chunks (unions_of Dense ids fs) s j n h = absurd h
count_of_chunks _ s j n h = absurd h

chunks_again : (f : Form) (s r : List Slot) (j n i : ℕ) → HasParts f s (parts_of.FixedSizeList j n) → i ≡ length r → HasParts f r (parts_of.FixedSizeList j i)
chunks_again (fixed_size_lists_of k u) s r j n i h e = (h.0, e)
chunks_again (lists_of false u) s r j n i h e = absurd h
chunks_again (lists_of true u) s r j n i h e = absurd h
chunks_again (unions_of Sparse ids fs) s r j n i h e = absurd h
chunks_again (unions_of Dense ids fs) s r j n i h e = absurd h
chunks_again _ s r j n i h e = absurd h

count_of_structs : (f : Form) (s : List Slot) (n : ℕ) → HasParts f s (parts_of.Struct n) → n ≡ length s
count_of_structs (structs_of fs) s n h = h
count_of_structs (lists_of false u) s n h = absurd h
count_of_structs (lists_of true u) s n h = absurd h
count_of_structs (unions_of Sparse ids fs) s n h = absurd h
count_of_structs (unions_of Dense ids fs) s n h = absurd h
count_of_structs _ s n h = absurd h

structs_again : (f : Form) (s r : List Slot) (n i : ℕ) → HasParts f s (parts_of.Struct n) → i ≡ length r → HasParts f r (parts_of.Struct i)
structs_again (structs_of fs) s r n i h e = e
structs_again (lists_of false u) s r n i h e = absurd h
structs_again (lists_of true u) s r n i h e = absurd h
structs_again (unions_of Sparse ids fs) s r n i h e = absurd h
structs_again (unions_of Dense ids fs) s r n i h e = absurd h
structs_again _ s r n i h e = absurd h

-- how many slots there are with the picked ones
count_taken : (l : Layout) (rs : List Run) (n old : ℕ) (s : List Slot) → old ≡ length s → old + length (places rs) * n ≡ length (taken l rs n s)
count_taken l rs n old s e =
    let xs = picked (type_of l) l (places rs) in
    ap₂ (λ a b. a + b * n) e (sym (length-map (places rs) (pick (fill (type_of l)) (denote l)))) ∙ sym (length_more s xs n)

no_count : (l : Layout) (rs : List Run) (n old : ℕ) (s : List Slot) → old ≡ length s → 2 ^ 64 ≤ old + length (places rs) * n → Room (type_of l) (taken l rs n s) → ⊥
no_count l rs n old s e past room = omega (arith, past, count_taken l rs n old s e, room_count (type_of l) (taken l rs n s) room)

-- ---- fixed-size lists

module _ (l : Layout) (t : TypeData) (m k : Option Bits) (size slots : ℕ) (c : Layout) (rs : List Run) (g : l ≡ fixed_size_lists t m size slots c) (e : k ≡ m) (w : WellFormed l) (within : AreWithin (length_of l) rs) where
  chunks_well : WellFormed (fixed_size_lists t m size slots c)
  chunks_well = subst WellFormed g w

  chunks_within : AreWithin slots rs
  chunks_within = subst (λ x. AreWithin (length_of x) rs) g within

  pub chunk_node_runs : (r : Result ChildRuns GrowError) → IfOk r (AreChunkRuns size slots k rs) → IfOk r (AreChildRuns l rs)
  chunk_node_runs (Ok x) h =
      subst (λ y. AreChildRuns y rs x) (sym g) (chunk_runs t m size slots c rs chunks_well chunks_within x (subst (λ b. AreChunkRuns size slots b rs x) e h))
  chunk_node_runs (Err x) h = tt

  pub chunk_node_taken : (n j old new : ℕ) (r : Result ChildRuns GrowError) → OnOk r (new ≡ old + length (places rs) * n) → OnOk r (new < 2 ^ 64)
      → OnOk r (HaveTaken l rs n (parts_of.FixedSizeList j old) (parts_of.FixedSizeList j new))
  chunk_node_taken n j old new (Ok x) counted few = λ s h.
      let f = form_of (type_of l) in
      (chunks_again f s (taken l rs n s) j old new h (counted ∙ count_taken l rs n old s (count_of_chunks f s j old h)), few)
  chunk_node_taken n j old new (Err x) counted few = tt

  chunk_of_form : form_of (type_of l) ≡ fixed_size_lists_of size (type_of c)
  chunk_of_form = ap (λ x. form_of (type_of x)) g ∙ chunks_well.0.of_form

  abbrev chunk_column : List Slot → List Slot
  chunk_column s = flat_map (items_or (replicate size (fill (type_of c)))) s

  -- the items of the picked lists
  column_picked : chunk_column (picked (type_of l) l (places rs)) ≡ picked (type_of c) c (flat_map (chunk_places size) (kept_places m (places rs)))
  column_picked =
      ap (λ x. chunk_column (picked (type_of x) x (places rs))) g ∙ ap first_column (chunk_columns t m size slots c rs chunks_well chunks_within)

  column_long : (n : ℕ) (s : List Slot) → 0 < n → length (flat_map (chunk_places size) (kept_places k (places rs))) ≤ length (chunk_column (taken l rs n s))
  column_long n s some =
      let xs = picked (type_of l) l (places rs) in
      let f = fixed_size_lists_of size (type_of c) in
      let split : chunk_column (taken l rs n s) ≡ chunk_column s ++ copied n (chunk_column xs) =
      flat_map-append (items_or (replicate size (fill (type_of c)))) s (copied n xs) ∙ ap (λ ys. chunk_column s ++ ys) (ap first_column (columns_copied f n xs)) in
      let long : length (chunk_column (taken l rs n s)) ≡ length (chunk_column s) + length (chunk_column xs) * n = ap length split ∙ length_more (chunk_column s) (chunk_column xs) n in
      let one : length (chunk_column xs) ≡ length (flat_map (chunk_places size) (kept_places k (places rs))) =
      ap length column_picked ∙ length-map (flat_map (chunk_places size) (kept_places m (places rs))) (pick (fill (type_of c)) (denote c))
      ∙ ap (λ b. length (flat_map (chunk_places size) (kept_places b (places rs)))) (sym e) in
      let more : length (chunk_column xs) * 1 ≤ length (chunk_column xs) * n = mul-le-mul_left (length (chunk_column xs)) (omega (arith, some)) in
      omega (arith, long, one, more)

  pub chunk_node_full : (n j old : ℕ) → 0 < n → (2 ^ 64 ≤ old + length (places rs) * n) ⊎ (2 ^ 64 ≤ length (flat_map (chunk_places size) (kept_places k (places rs)))) → HaveNoRoom l rs n (parts_of.FixedSizeList j old)
  chunk_node_full n j old some (inl past) = λ s h room. no_count l rs n old s (count_of_chunks (form_of (type_of l)) s j old h) past room
  chunk_node_full n j old some (inr past) = λ s h room.
      let all = room_columns (type_of l) (fixed_size_lists_of size (type_of c)) (taken l rs n s) chunk_of_form tt room in
      omega (arith, past, column_long n s some, room_count (type_of c) (chunk_column (taken l rs n s)) all.0)

-- ---- structs

module _ (l : Layout) (t : TypeData) (m k : Option Bits) (slots : ℕ) (ls : Layouts) (rs : List Run) (g : l ≡ structs t m slots ls) (e : k ≡ m) (w : WellFormed l) (within : AreWithin (length_of l) rs) where
  pub struct_node_runs : (r : Result ChildRuns GrowError) → IfOk r (AreStructRuns slots k rs) → IfOk r (AreChildRuns l rs)
  struct_node_runs (Ok x) h =
      subst (λ y. AreChildRuns y rs x) (sym g)
      (struct_runs t m slots ls rs (subst WellFormed g w) (subst (λ y. AreWithin (length_of y) rs) g within) x (subst (λ b. AreStructRuns slots b rs x) e h))
  struct_node_runs (Err x) h = tt

pub struct_node_taken : (l : Layout) (rs : List Run) (n old new : ℕ) (r : Result ChildRuns GrowError) → OnOk r (new ≡ old + length (places rs) * n) → OnOk r (new < 2 ^ 64)
    → OnOk r (HaveTaken l rs n (parts_of.Struct old) (parts_of.Struct new))
struct_node_taken l rs n old new (Ok x) counted few = λ s h.
    let f = form_of (type_of l) in
    (structs_again f s (taken l rs n s) old new h (counted ∙ count_taken l rs n old s (count_of_structs f s old h)), few)
struct_node_taken l rs n old new (Err x) counted few = tt

pub struct_node_full : (l : Layout) (rs : List Run) (n old : ℕ) → 2 ^ 64 ≤ old + length (places rs) * n → HaveNoRoom l rs n (parts_of.Struct old)
struct_node_full l rs n old past = λ s h room. no_count l rs n old s (count_of_structs (form_of (type_of l)) s old h) past room
