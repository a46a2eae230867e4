-- The arrays in which growables of arrays with children end.
use Rattle.std.proofs.Common.{◌≡◌, ℕ, zero, suc, pred, ◌+◌, ◌*◌, ◌<◌, ◌≤◌, ◌^◌, ℤ, Bool, true, false, List, [], ◌∷◌, length, map, replicate, flat_map, refl, ap, ap₂, sym, ◌∙◌, subst, arith, Option, Some, None}
use Rattle.std.specs.Prelude.{⊤}
use Rattle.std.specs.List.{AllByRecursion}
use Rattle.arrow_types.specs.Carried.{IsCarried}
use Rattle.arrow_types.specs.Select.{nat_of}
use Rattle.arrow_types.specs.TypeData.{TypeData, FieldList, no_fields, and_field}
use Rattle.arrow_types.specs.TypeData as T
use Rattle.arrow_types.specs.declared.datatype.UnionMode.TheVariants.{Dense, Sparse}
use Rattle.arrow_buffers.specs.Bits.{Bits, plain}
use Rattle.arrow_flat.specs.Slots.{Slot, is_valid, null, bool, num, bytes, items, parts, chosen}
use Rattle.arrow_flat.specs.Pieces.{pieces}
use Rattle.arrow_layout.specs.Canon.{canon, items_or, mask_of, offsets}
use Rattle.arrow_layout.specs.Canonical.{AllUnset}
use Rattle.arrow_layout.specs.Denote.{columns, denote, masked, validity_of}
use Rattle.arrow_layout.specs.Fits.{AllSmall, Fits, Small}
use Rattle.arrow_layout.specs.FitsHere.{FitsHere, HaveLengths}
use Rattle.arrow_layout.specs.Forms.{Form, form_of, large_by, offset_limit, lists_of, fixed_size_lists_of, structs_of, unions_of}
use Rattle.arrow_layout.specs.Layouts.{Layout, lists, Layouts, no_layouts, child, type_of, length_of, lengths_of}
use Rattle.arrow_layout.specs.Masks.{HasMask}
use Rattle.arrow_layout.specs.Plain.{ArePlain, IsPlain, IsPlainMask}
use Rattle.arrow_layout.specs.SlotsOf.{HasSlots}
use Rattle.arrow_layout.specs.WellFormed.{AllNamed, AreOffsetsWithin, HaveTypes, IsColumnOf, MaskFits, WellFormed, mask_bits, positions}
use Rattle.arrow_layout.proofs.ByForm.{canon_by, canon-form, type-canon}
use Rattle.arrow_layout.proofs.CanonForms.{canon_well_formed}
use Rattle.arrow_layout.proofs.CanonLengths.{length-canon, length-offsets}
use Rattle.arrow_layout.proofs.FromParts.{fits_here}
use Rattle.arrow_layout.proofs.Lengths.{length-denote}
use Rattle.arrow_layout.proofs.Pieces.{pieces_joined}
use Rattle.std.proofs.lemmas.List.{length-map}
use Rattle.arrow_layout.proofs.Smalls.{small-denote}
use Rattle.arrow_grow_flat.specs.Grown.{IsMasked, Room}
use Rattle.arrow_grow_flat.specs.Masks.{plain_mask}
use Rattle.arrow_grow_flat.specs.Tidy.{AreTidy, IsTidy}
use Rattle.arrow_grow_flat.specs.Values.{IsMaskOf, is_there}
use Rattle.arrow_growable.specs.Columns.{child_types, columns_by, IsNested, canon_columns}
use Rattle.arrow_growable.specs.Parts.{layout_with, first_layout, mask_with, HasParts, widths}
use Rattle.arrow_growable.specs.declared.parts.NestedParts.{NestedParts}
use Rattle.arrow_growable.specs.declared.parts.NestedParts.TheVariants as parts_of
use Rattle.arrow_growable.proofs.PartLayouts.{canon_with}

-- ---- children of the same types and lengths

abbrev pub AreLike : Layouts → Layouts → Type 0
AreLike no_layouts no_layouts = ⊤
AreLike no_layouts (child k ks) = ⊥
AreLike (child l ls) no_layouts = ⊥
AreLike (child l ls) (child k ks) = (type_of l ≡ type_of k) × (length_of l ≡ length_of k) × AreLike ls ks

first_type : (ls ks : Layouts) → AreLike ls ks → type_of (first_layout ls) ≡ type_of (first_layout ks)
first_type no_layouts no_layouts h = refl
first_type no_layouts (child k ks) h = absurd h
first_type (child l ls) no_layouts h = absurd h
first_type (child l ls) (child k ks) h = h.0

first_length : (ls ks : Layouts) → AreLike ls ks → length_of (first_layout ls) ≡ length_of (first_layout ks)
first_length no_layouts no_layouts h = refl
first_length no_layouts (child k ks) h = absurd h
first_length (child l ls) no_layouts h = absurd h
first_length (child l ls) (child k ks) h = h.1

same_lengths : (ls ks : Layouts) → AreLike ls ks → lengths_of ls ≡ lengths_of ks
same_lengths no_layouts no_layouts h = refl
same_lengths no_layouts (child k ks) h = absurd h
same_lengths (child l ls) no_layouts h = absurd h
same_lengths (child l ls) (child k ks) h = ap₂ (λ n ns. n ∷ ns) h.1 (same_lengths ls ks h.2)

types_like : (fs : FieldList) (ls ks : Layouts) → AreLike ls ks → HaveTypes fs ls → HaveTypes fs ks
types_like no_fields no_layouts no_layouts h t = tt
types_like no_fields no_layouts (child k ks) h t = absurd h
types_like no_fields (child l ls) ks h t = absurd t
types_like (and_field f fs) no_layouts ks h t = absurd t
types_like (and_field f fs) (child l ls) no_layouts h t = absurd h
types_like (and_field f fs) (child l ls) (child k ks) h t = (t.0 ∙ h.0, types_like fs ls ks h.2 t.1)

lengths_like : (P : ℕ → Type 0) (ls ks : Layouts) → AreLike ls ks → HaveLengths P ls → HaveLengths P ks
lengths_like P no_layouts no_layouts h t = tt
lengths_like P no_layouts (child k ks) h t = absurd h
lengths_like P (child l ls) no_layouts h t = absurd h
lengths_like P (child l ls) (child k ks) h t = (subst P h.1 t.0, lengths_like P ls ks h.2 t.1)

column_like : (t : TypeData) (f g : Form) (m k : Option Bits) (n : ℕ) → f ≡ g → MaskFits k n → IsColumnOf t f m n → IsColumnOf t g k n
column_like t f g m k n e fits c = record { carried = c.carried; of_form = c.of_form ∙ e; mask = fits; count = c.count }

-- the node of the same parts under another mask that fits, over children that are like those
pub fits_like : (t : TypeData) (m k : Option Bits) (p : NestedParts) (ls ks : Layouts) → AreLike ls ks → MaskFits k (length_of (layout_with t m p ls)) → FitsHere (layout_with t m p ls) → FitsHere (layout_with t k p ks)
fits_like t m k (parts_of.List os) ls ks h fits w =
    let e = first_type ls ks h in let n = first_length ls ks h in
    (column_like t _ _ m k _ (ap (lists_of (large_by (form_of t))) e) fits w.0, subst (λ i. AreOffsetsWithin (offset_limit (form_of t)) i (map (λ o. o) os)) n w.1)
fits_like t m k (parts_of.LargeList os) ls ks h fits w =
    let e = first_type ls ks h in let n = first_length ls ks h in
    (column_like t _ _ m k _ (ap (lists_of (large_by (form_of t))) e) fits w.0, subst (λ i. AreOffsetsWithin (offset_limit (form_of t)) i (map (λ o. o) os)) n w.1)
fits_like t m k (parts_of.Map os) ls ks h fits w =
    let e = first_type ls ks h in let n = first_length ls ks h in
    (column_like t _ _ m k _ (ap (lists_of (large_by (form_of t))) e) fits w.0, subst (λ i. AreOffsetsWithin (offset_limit (form_of t)) i (map (λ o. o) os)) n w.1)
fits_like t m k (parts_of.FixedSizeList j n) ls ks h fits w =
    (column_like t _ _ m k n (ap (fixed_size_lists_of j) (first_type ls ks h)) fits w.0, sym (first_length ls ks h) ∙ w.1)
fits_like t m k (parts_of.Struct n) ls ks h fits w =
    (column_like t _ _ m k n refl fits w.0, types_like _ ls ks h w.1, lengths_like (λ i. i ≡ n) ls ks h w.2)
fits_like t m k (parts_of.SparseUnion ts) ls ks h fits w = (w.0, w.1, w.2, types_like _ ls ks h w.3, lengths_like (λ i. 0 + length ts.items ≤ i) ls ks h w.4)
fits_like t m k (parts_of.DenseUnion ts os ns) ls ks h fits w =
    (w.0, w.1, w.2, w.3, subst (λ i. AllNamed i (positions t ts.items) (map nat_of os.items)) (same_lengths ls ks h) w.4, types_like _ ls ks h w.5)

-- ---- the arrays of the columns

-- Well formed layouts of these types that denote the columns.
abbrev pub AreBoxes : List TypeData → List (List Slot) → Layouts → Type 0
AreBoxes [] [] no_layouts = ⊤
AreBoxes (t ∷ ts) (c ∷ cs) (child l ls) = (type_of l ≡ t) × (denote l ≡ c) × WellFormed l × AreBoxes ts cs ls
AreBoxes _ _ _ = ⊥

pub boxes_like : (ts : List TypeData) (cs : List (List Slot)) (ls : Layouts) → AreBoxes ts cs ls → AreLike (canon_columns ts cs) ls
boxes_like [] [] no_layouts h = tt
boxes_like [] [] (child l ls) h = absurd h
boxes_like [] (c ∷ cs) ls h = absurd h
boxes_like (t ∷ ts) [] ls h = absurd h
boxes_like (t ∷ ts) (c ∷ cs) no_layouts h = absurd h
boxes_like (t ∷ ts) (c ∷ cs) (child l ls) h =
    (type-canon t c ∙ sym h.0, length-canon t c ∙ ap length (sym h.1) ∙ length-denote l h.2, boxes_like ts cs ls h.3)

pub boxes_denote : (ts : List TypeData) (cs : List (List Slot)) (ls : Layouts) → AreBoxes ts cs ls → columns ls ≡ cs
boxes_denote [] [] no_layouts h = refl
boxes_denote [] [] (child l ls) h = absurd h
boxes_denote [] (c ∷ cs) ls h = absurd h
boxes_denote (t ∷ ts) [] ls h = absurd h
boxes_denote (t ∷ ts) (c ∷ cs) no_layouts h = absurd h
boxes_denote (t ∷ ts) (c ∷ cs) (child l ls) h = ap₂ (λ x xs. x ∷ xs) h.1 (boxes_denote ts cs ls h.3)

pub boxes_small : (ts : List TypeData) (cs : List (List Slot)) (ls : Layouts) → AreBoxes ts cs ls → AllSmall (canon_columns ts cs)
boxes_small [] [] no_layouts h = tt
boxes_small [] [] (child l ls) h = absurd h
boxes_small [] (c ∷ cs) ls h = absurd h
boxes_small (t ∷ ts) [] ls h = absurd h
boxes_small (t ∷ ts) (c ∷ cs) no_layouts h = absurd h
boxes_small (t ∷ ts) (c ∷ cs) (child l ls) h =
    (subst Small (ap₂ canon h.0 h.1) (small-denote l h.2), boxes_small ts cs ls h.3)

small_with : (t : TypeData) (m : Option Bits) (f : Form) (s : List Slot) (p : NestedParts) → HasParts f s p → AllSmall (canon_columns (child_types f) (columns_by f s))
    → Small (layout_with t m p (canon_columns (child_types f) (columns_by f s)))
small_with t m (lists_of false u) s (parts_of.List os) k h = h.0
small_with t m (lists_of false u) s (parts_of.Map os) k h = h.0
small_with t m (lists_of true u) s (parts_of.LargeList os) k h = h.0
small_with t m (fixed_size_lists_of z u) s (parts_of.FixedSizeList j n) k h = h.0
small_with t m (structs_of fs) s (parts_of.Struct n) k h = h
small_with t m (unions_of Sparse ids fs) s (parts_of.SparseUnion ts) k h = h
small_with t m (unions_of Dense ids fs) s (parts_of.DenseUnion ts os ns) k h = h
small_with t m _ s _ k h = absurd k

-- the node of the parts over boxes of the columns
mask_room : (m : Option (List Bool)) (s : List Slot) (n : ℕ) → IsMaskOf m s → length s ≡ n → MaskFits (plain_mask m) n
mask_room None s n h e = tt
mask_room (Some bits) s n h e = (ap length h ∙ length-map s is_valid ∙ e, omega arith)

pub box_fits : (t : TypeData) (f : Form) (s : List Slot) (p : NestedParts) (m : Option (List Bool)) (ls : Layouts) → form_of t ≡ f → IsCarried t → HasSlots t s → HasParts f s p → IsMaskOf m s → Room t s
    → AreBoxes (child_types f) (columns_by f s) ls → FitsHere (layout_with t (plain_mask m) p ls)
box_fits t f s p m ls e c h k q room boxes =
    let made = canon_columns (child_types f) (columns_by f s) in
    let same : canon t s ≡ layout_with t (mask_of s) p made = canon_with t f s p e k in
    let small = small_with t (mask_of s) f s p k (boxes_small (child_types f) (columns_by f s) ls boxes) in
    let well : WellFormed (canon t s) = canon_well_formed t s c h room (subst Small (sym same) small) in
    let here : FitsHere (layout_with t (mask_of s) p made) = subst FitsHere same (fits_here (canon t s) well) in
    let long : length s ≡ length_of (layout_with t (mask_of s) p made) = sym (length-canon t s) ∙ ap length_of same in
    fits_like t (mask_of s) (plain_mask m) p made ls (boxes_like (child_types f) (columns_by f s) ls boxes) (mask_room m s (length_of (layout_with t (mask_of s) p made)) q long) here

-- ---- plain and tidy

plain_own : (m : Option (List Bool)) → IsPlainMask (plain_mask m)
plain_own None = tt
plain_own (Some bits) = refl

plain_first : (ls : Layouts) → ArePlain ls → IsPlain (first_layout ls)
plain_first no_layouts h = tt
plain_first (child l ls) h = h.0

pub plain_with : (t : TypeData) (m : Option (List Bool)) (p : NestedParts) (ls : Layouts) → ArePlain ls → IsPlain (layout_with t (plain_mask m) p ls)
plain_with t m (parts_of.List os) ls h = (plain_own m, plain_first ls h)
plain_with t m (parts_of.LargeList os) ls h = (plain_own m, plain_first ls h)
plain_with t m (parts_of.Map os) ls h = (plain_own m, plain_first ls h)
plain_with t m (parts_of.FixedSizeList k n) ls h = (plain_own m, plain_first ls h)
plain_with t m (parts_of.Struct n) ls h = (plain_own m, h)
plain_with t m (parts_of.SparseUnion ts) ls h = (refl, h)
plain_with t m (parts_of.DenseUnion ts os ns) ls h = (refl, h)

spans_empty : (s : List Slot) → AllUnset (λ v. v ≡ []) (map is_valid s) (map (items_or []) s)
spans_empty [] = tt
spans_empty (null ∷ s) = (refl, spans_empty s)
spans_empty (bool b ∷ s) = spans_empty s
spans_empty (num zs ∷ s) = spans_empty s
spans_empty (bytes bs ∷ s) = spans_empty s
spans_empty (items xs ∷ s) = spans_empty s
spans_empty (parts xs ∷ s) = spans_empty s
spans_empty (chosen t x ∷ s) = spans_empty s

bits_own : (m : Option (List Bool)) (s : List Slot) (n : ℕ) → length s ≡ n → IsMaskOf m s → mask_bits (plain_mask m) n ≡ map is_valid s
bits_own None s n e h = ap (λ k. replicate k true) (sym e) ∙ all_bits s h where
  all_bits : (s : List Slot) → AllByRecursion (λ x. is_valid x ≡ true) s → replicate (length s) true ≡ map is_valid s
  all_bits [] h = refl
  all_bits (x ∷ xs) h = ap₂ (λ b bs. b ∷ bs) (sym h.0) (all_bits xs h.1)
bits_own (Some bits) s n e h = h

-- lists over the items of slots have nothing under a null
list_tidy : (m : Option (List Bool)) (s inner : List Slot) (os : List ℤ) → os ≡ offsets (widths s) → inner ≡ flat_map (items_or []) s → IsMaskOf m s
    → AllUnset (λ v. v ≡ []) (mask_bits (plain_mask m) (pred (length os))) (pieces (map nat_of os) inner)
list_tidy m s inner os e i q =
    let many : length s ≡ pred (length os) = sym (length-offsets (items_or []) s) ∙ ap (λ ns. pred (length ns)) (sym e) in
    let split : pieces (map nat_of os) inner ≡ map (items_or []) s = ap₂ (λ ns xs. pieces (map nat_of ns) xs) e i ∙ pieces_joined (items_or []) s in
    subst (λ bs. AllUnset (λ v. v ≡ []) bs (pieces (map nat_of os) inner)) (sym (bits_own m s (pred (length os)) many q))
    (subst (AllUnset (λ v. v ≡ []) (map is_valid s)) (sym split) (spans_empty s))

first_tidy : (ls : Layouts) → AreTidy ls → IsTidy (first_layout ls)
first_tidy no_layouts h = tt
first_tidy (child l ls) h = h.0

first_of_boxes : (t : TypeData) (c : List Slot) (ls : Layouts) → AreBoxes (t ∷ []) (c ∷ []) ls → denote (first_layout ls) ≡ c
first_of_boxes t c no_layouts h = absurd h
first_of_boxes t c (child l ls) h = h.1

pub tidy_with : (t : TypeData) (f : Form) (s : List Slot) (p : NestedParts) (m : Option (List Bool)) (ls : Layouts) → HasParts f s p → IsMaskOf m s → AreBoxes (child_types f) (columns_by f s) ls → AreTidy ls
    → IsTidy (layout_with t (plain_mask m) p ls)
tidy_with t (lists_of false u) s (parts_of.List os) m ls k q b h = (list_tidy m s (denote (first_layout ls)) (map (λ o. o) os) k (first_of_boxes u _ ls b) q, first_tidy ls h)
tidy_with t (lists_of false u) s (parts_of.Map os) m ls k q b h = (list_tidy m s (denote (first_layout ls)) (map (λ o. o) os) k (first_of_boxes u _ ls b) q, first_tidy ls h)
tidy_with t (lists_of true u) s (parts_of.LargeList os) m ls k q b h = (list_tidy m s (denote (first_layout ls)) (map (λ o. o) os) k (first_of_boxes u _ ls b) q, first_tidy ls h)
tidy_with t (fixed_size_lists_of z u) s (parts_of.FixedSizeList j n) m ls k q b h = first_tidy ls h
tidy_with t (structs_of fs) s (parts_of.Struct n) m ls k q b h = h
tidy_with t (unions_of Sparse ids fs) s (parts_of.SparseUnion ts) m ls k q b h = h
tidy_with t (unions_of Dense ids fs) s (parts_of.DenseUnion ts os ns) m ls k q b h = h
tidy_with t _ s _ m ls k q b h = absurd k

own_mask : (m : Option (List Bool)) → IsMasked (is_there m) (plain_mask m)
own_mask None = refl
own_mask (Some bits) = tt

pub masked_with : (t : TypeData) (m : Option (List Bool)) (p : NestedParts) (ls : Layouts) → HasMask (layout_with t (plain_mask m) p ls) → IsMasked (is_there m) (validity_of (layout_with t (plain_mask m) p ls))
masked_with t m (parts_of.List os) ls h = own_mask m
masked_with t m (parts_of.LargeList os) ls h = own_mask m
masked_with t m (parts_of.Map os) ls h = own_mask m
masked_with t m (parts_of.FixedSizeList k n) ls h = own_mask m
masked_with t m (parts_of.Struct n) ls h = own_mask m
masked_with t m (parts_of.SparseUnion ts) ls h = absurd h
masked_with t m (parts_of.DenseUnion ts os ns) ls h = absurd h
