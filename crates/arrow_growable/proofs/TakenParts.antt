-- What is appended of slots that are picked out of an array, by its layout.
use Rattle.std.proofs.Common.{◌≡◌, ℕ, zero, suc, pred, ◌+◌, ◌-◌, ◌*◌, ◌<◌, ◌≤◌, ◌^◌, ℤ, Bool, true, false, cond, List, [], ◌∷◌, ◌++◌, length, map, replicate, flat_map, get_or, sum, refl, ap, ap₂, sym, ◌∙◌, subst, arith, Option, Some, None, length-append}
use Rattle.std.proofs.Common.{◌⊎◌, inl, inr}
use Rattle.std.specs.Prelude.{⊤}
use Rattle.std.specs.List.{AllByRecursion}
use Rattle.std.proofs.lemmas.List.{length-map, map-append}
use Rattle.arrow_types.specs.Carried.{IsBelow, IsCarried}
use Rattle.arrow_types.specs.Select.{nat_of}
use Rattle.arrow_types.specs.TypeData.{TypeData}
use Rattle.arrow_types.specs.declared.datatype.UnionMode.TheVariants.{Dense, Sparse}
use Rattle.arrow_buffers.specs.Bits.{Bits}
use Rattle.arrow_flat.specs.Slots.{Slot}
use Rattle.arrow_layout.specs.Canon.{canon, items_or, mask_of, offsets}
use Rattle.arrow_layout.specs.Denote.{columns, denote, validity_of}
use Rattle.arrow_layout.specs.Fits.{Fits}
use Rattle.arrow_layout.specs.Forms.{Form, form_of, lists_of, fixed_size_lists_of, structs_of, unions_of, large_by, fields_by, offset_limit}
use Rattle.arrow_layout.specs.Layouts.{Layout, lists, fixed_size_lists, structs, Layouts, no_layouts, child, type_of, length_of}
use Rattle.arrow_layout.specs.Paths.{children_of}
use Rattle.arrow_layout.specs.SlotsOf.{HasSlots}
use Rattle.arrow_layout.specs.WellFormed.{AreWellFormed, MaskFits, WellFormed}
use Rattle.arrow_layout.proofs.ByForm.{canon_by, canon-form}
use Rattle.arrow_layout.proofs.CanonLengths.{length-canon}
use Rattle.arrow_layout.proofs.Lengths.{length-denote}
use Rattle.arrow_layout.proofs.Unique.{carried_of}
use Rattle.arrow_canon.specs.Picks.{ArePlaces, picked, pick, picked_mask}
use Rattle.arrow_canon.specs.Runs.{AreWithin, places}
use Rattle.arrow_canon.specs.declared.run.Run.{Run}
use Rattle.arrow_canon.proofs.Places.{places_within}
use Rattle.arrow_items.specs.Items.{chunk_places, item_count, item_places, kept_places}
use Rattle.arrow_items.specs.Kinds.{lists_picked, chunks_picked, structs_picked}
use Rattle.arrow_items.proofs.ByKind.{lists_canon, chunks_canon, structs_canon}
use Rattle.arrow_grow_flat.specs.Grown.{copied}
use Rattle.arrow_meaning.specs.Nodes.{list_offsets}
use Rattle.arrow_growable.specs.ChildRuns.{may_fill, AreChildRuns, AreChunkRuns, AreInside, AreListRuns, AreSlots, AreStructRuns, HasNoFill, HasRuns, runs_for}
use Rattle.arrow_growable.specs.Columns.{columns_by, IsNested}
use Rattle.arrow_growable.specs.Parts.{repeated, widths}
use Rattle.arrow_growable.specs.declared.child_runs.ChildRuns.{ChildRuns}
use Rattle.arrow_growable.specs.declared.child_runs.ItemRuns.{ItemRuns}
use Rattle.arrow_growable.proofs.ColumnSlots.{columns_have}
use Rattle.arrow_growable.proofs.PickedColumns.{columns_from, columns_shared, picked_denoted, picked_slots}
use Rattle.arrow_growable.proofs.Positions.{all_set_mask, chunks_slots, items_slots, kept_slots}

-- ---- lists

module _ (u : TypeData) (m : Option Bits) (os : List ℤ) (l : Layout) (rs : List Run) (w : WellFormed (lists u m os l)) (within : AreWithin (pred (length os)) rs) where
  abbrev lists_here : Layout
  lists_here = lists u m os l

  lists_same : canon u (picked u lists_here (places rs)) ≡ lists_picked u m (map nat_of os) l (places rs)
  lists_same = lists_canon (large_by (form_of u)) u u m os l (places rs) w.0.of_form w.0.mask w.1.ascend w.2 (places_within (pred (length os)) rs within)

  lists_mask : (xs : List Slot) → mask_of xs ≡ validity_of (canon u xs)
  lists_mask xs = ap validity_of (sym (canon-form u (lists_of (large_by (form_of u)) (type_of l)) xs w.0.of_form))

  lists_widths : (xs : List Slot) → offsets (widths xs) ≡ list_offsets (canon u xs)
  lists_widths xs = ap list_offsets (sym (canon-form u (lists_of (large_by (form_of u)) (type_of l)) xs w.0.of_form))

  -- the ends of the picked lists
  pub list_ends : offsets (map (item_count (map nat_of os)) (kept_places m (places rs))) ≡ offsets (widths (picked u lists_here (places rs)))
  list_ends = sym (lists_widths (picked u lists_here (places rs)) ∙ ap list_offsets lists_same)

  pub list_runs : (c : ChildRuns) → AreListRuns (map nat_of os) m rs c → AreChildRuns lists_here rs c
  list_runs c h =
      let f = lists_of (large_by (form_of u)) (type_of l) in
      let xs = picked u lists_here (places rs) in
      let cols = columns_from u f xs (lists_picked u m (map nat_of os) l (places rs)) w.0.of_form tt (carried_of lists_here w) (picked_slots lists_here (places rs) w) lists_same in
      record {
        columns = ap (λ g. columns_by g xs) w.0.of_form ∙ cols
            ∙ ap (λ ys. ys ∷ []) (picked_denoted l (flat_map (item_places (map nat_of os)) (kept_places m (places rs))) w.2 ∙ ap (picked (type_of l) l) (sym (h.items 0)));
        inside = (h.same 0, h.inside 0 (length_of l) w.1.ascend, tt);
        fills = λ z none j k. subst AreSlots (sym (h.items j)) (items_slots (map nat_of os) (kept_places m (places rs)));
        mask = h.mask ∙ sym (lists_mask xs ∙ ap validity_of lists_same);
        set = λ none. lists_mask xs ∙ ap validity_of lists_same ∙ all_set_mask m (pred (length os)) (places rs) none.set w.0.mask (places_within (pred (length os)) rs within) none.slots;
        count = h.count;
      }

-- ---- fixed-size lists

module _ (u : TypeData) (m : Option Bits) (k n : ℕ) (l : Layout) (rs : List Run) (w : WellFormed (fixed_size_lists u m k n l)) (within : AreWithin n rs) where
  abbrev chunks_here : Layout
  chunks_here = fixed_size_lists u m k n l

  chunks_same : canon u (picked u chunks_here (places rs)) ≡ chunks_picked u m k l (places rs)
  chunks_same = chunks_canon u u m k n l (places rs) w.0.of_form w.0.mask w.1 w.2 (places_within n rs within)

  chunks_mask : (xs : List Slot) → mask_of xs ≡ validity_of (canon u xs)
  chunks_mask xs = ap validity_of (sym (canon-form u (fixed_size_lists_of k (type_of l)) xs w.0.of_form))

  chunk_fills : (c : ChildRuns) → AreChunkRuns k n m rs c → (z : Bool) → (z ≡ false → HasNoFill chunks_here rs) → (j : ℕ) → z ≡ false → AreSlots (places (runs_for c.items j))
  chunk_fills c h z none j e =
      let no_fill = none e in
      subst AreSlots (sym (h.items j)) (chunks_slots k (kept_places m (places rs)) (kept_slots m n (places rs) no_fill.set w.0.mask (places_within n rs within) no_fill.slots))

  -- the items of the picked lists
  pub chunk_columns : columns_by (fixed_size_lists_of k (type_of l)) (picked u chunks_here (places rs)) ≡ picked (type_of l) l (flat_map (chunk_places k) (kept_places m (places rs))) ∷ []
  chunk_columns =
      let xs = picked u chunks_here (places rs) in
      columns_from u (fixed_size_lists_of k (type_of l)) xs (chunks_picked u m k l (places rs)) w.0.of_form tt (carried_of chunks_here w) (picked_slots chunks_here (places rs) w) chunks_same
      ∙ ap (λ ys. ys ∷ []) (picked_denoted l (flat_map (chunk_places k) (kept_places m (places rs))) w.2)

  pub chunk_runs : (c : ChildRuns) → AreChunkRuns k n m rs c → AreChildRuns chunks_here rs c
  chunk_runs c h =
      let xs = picked u chunks_here (places rs) in
      record {
        columns = ap (λ g. columns_by g xs) w.0.of_form ∙ chunk_columns ∙ ap (λ ps. picked (type_of l) l ps ∷ []) (sym (h.items 0));
        inside = (h.same 0, subst (λ i. AreWithin i (runs_for c.items 0)) (sym w.1) (h.inside 0), tt);
        fills = λ z none j e. chunk_fills c h z none j (sym (ap (λ g. may_fill g z j) w.0.of_form) ∙ e);
        mask = h.mask ∙ sym (chunks_mask xs ∙ ap validity_of chunks_same);
        set = λ none. chunks_mask xs ∙ ap validity_of chunks_same ∙ all_set_mask m n (places rs) none.set w.0.mask (places_within n rs within) none.slots;
        count = h.count;
      }

-- ---- structs

struct_inside : (n : ℕ) (ls : Layouts) (items : ItemRuns) (j : ℕ) → AreWellFormed (λ i. i ≡ n) ls → ((i : ℕ) → HasRuns i items) → ((i : ℕ) → AreWithin n (runs_for items i)) → AreInside ls items j
struct_inside n no_layouts items j w s h = tt
struct_inside n (child l ls) items j w s h = (s j, subst (λ i. AreWithin i (runs_for items j)) (sym w.0) (h j), struct_inside n ls items (suc j) w.2 s h)

module _ (u : TypeData) (m : Option Bits) (n : ℕ) (ls : Layouts) (rs : List Run) (w : WellFormed (structs u m n ls)) (within : AreWithin n rs) where
  abbrev structs_here : Layout
  structs_here = structs u m n ls

  structs_same : canon u (picked u structs_here (places rs)) ≡ structs_picked u m ls (places rs)
  structs_same = structs_canon u u m n (fields_by (form_of u)) ls (places rs) w.0.of_form w.0.mask w.1 w.2 (places_within n rs within)

  structs_mask : (xs : List Slot) → mask_of xs ≡ validity_of (canon u xs)
  structs_mask xs = ap validity_of (sym (canon-form u (structs_of (fields_by (form_of u))) xs w.0.of_form))

  struct_fills : (c : ChildRuns) → AreStructRuns n m rs c → (z : Bool) → (z ≡ false → HasNoFill structs_here rs) → (j : ℕ) → z ≡ false → AreSlots (places (runs_for c.items j))
  struct_fills c h z none j e =
      let no_fill = none e in
      subst AreSlots (sym (h.items j)) (kept_slots m n (places rs) no_fill.set w.0.mask (places_within n rs within) no_fill.slots)

  pub struct_runs : (c : ChildRuns) → AreStructRuns n m rs c → AreChildRuns structs_here rs c
  struct_runs c h =
      let f = structs_of (fields_by (form_of u)) in
      let xs = picked u structs_here (places rs) in
      let cols = columns_from u f xs (structs_picked u m ls (places rs)) w.0.of_form tt (carried_of structs_here w) (picked_slots structs_here (places rs) w) structs_same in
      record {
        columns = ap (λ g. columns_by g xs) w.0.of_form ∙ cols ∙ columns_shared (λ i. i ≡ n) ls c.items (kept_places m (places rs)) 0 w.2 h.items;
        inside = struct_inside n ls c.items 0 w.2 h.same h.inside;
        fills = λ z none j e. struct_fills c h z none j (sym (ap (λ g. may_fill g z j) w.0.of_form) ∙ e);
        mask = h.mask ∙ sym (structs_mask xs ∙ ap validity_of structs_same);
        set = λ none. structs_mask xs ∙ ap validity_of structs_same ∙ all_set_mask m n (places rs) none.set w.0.mask (places_within n rs within) none.slots;
        count = h.count;
      }

-- ---- copies

pub map_repeated : {A B : Type 0} (f : A → B) (n : ℕ) (xs : List A) → map f (repeated n xs) ≡ repeated n (map f xs)
map_repeated f zero xs = refl
map_repeated f (suc n) xs = map-append f xs (repeated n xs) ∙ ap (λ ys. map f xs ++ ys) (map_repeated f n xs)

pub widths_more : (s xs : List Slot) (n : ℕ) → widths (s ++ copied n xs) ≡ widths s ++ repeated n (widths xs)
widths_more s xs n = map-append (λ x. length (items_or [] x)) s (copied n xs) ∙ ap (λ ys. widths s ++ ys) (map_repeated (λ x. length (items_or [] x)) n xs)

pub length_repeated : {A : Type 0} (n : ℕ) (xs : List A) → length (repeated n xs) ≡ length xs * n
length_repeated zero xs = omega arith
length_repeated (suc n) xs = let q = length_repeated n xs in let r = length-append xs (repeated n xs) in grind arith

pub length_more : (s xs : List Slot) (n : ℕ) → length (s ++ copied n xs) ≡ length s + length xs * n
length_more s xs n = length-append s (copied n xs) ∙ ap (λ k. length s + k) (length_repeated n xs)
