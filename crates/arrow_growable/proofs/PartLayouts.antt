-- The canonical layout by its parts and columns, and what such layouts denote, are and ask.
use Rattle.std.proofs.Common.{◌≡◌, ℕ, zero, suc, pred, ◌+◌, ◌*◌, ◌<◌, ◌≤◌, ◌^◌, ℤ, Bool, true, false, cond, List, [], ◌∷◌, ◌++◌, length, map, drop, replicate, flat_map, refl, ap, ap₂, sym, ◌∙◌, subst, arith, Option, Some, None, pos}
use Rattle.std.specs.Prelude.{⊤}
use Rattle.std.specs.List.{AllByRecursion, list_all}
use Rattle.std.proofs.lemmas.List.{length-map, map-id}
use Rattle.arrow_types.specs.Carried.{IsBelow, IsCarried, count_fields}
use Rattle.arrow_types.specs.Select.{nat_of, select}
use Rattle.arrow_types.specs.TypeData.{TypeData}
use Rattle.arrow_types.specs.declared.datatype.UnionMode.TheVariants.{Dense, Sparse}
use Rattle.arrow_buffers.specs.Bits.{Bits, plain}
use Rattle.std.proofs.lemmas.Bool.{false≢true}
use Rattle.arrow_flat.specs.Slots.{Slot, is_valid, null, bool, num, bytes, items, parts, chosen}
use Rattle.arrow_layout.specs.Canon.{canon, canon_dense, dense_offsets, items_or, mask_of, numbers, offsets, parts_or}
use Rattle.arrow_layout.specs.Denote.{columns, denote, fixed_list_slots, list_slots, masked, masked_by, rows, with_column}
use Rattle.arrow_layout.specs.Fits.{AllFit, Fits}
use Rattle.arrow_layout.specs.Forms.{Form, form_of, lists_of, fixed_size_lists_of, structs_of, unions_of, ids_by}
use Rattle.arrow_layout.specs.Layouts.{Layout, lists, fixed_size_lists, structs, sparse_unions, dense_unions, Layouts, no_layouts, child}
use Rattle.arrow_layout.specs.Paths.{children_of}
use Rattle.arrow_layout.specs.SlotsOf.{HasSlots, fill, fills}
use Rattle.arrow_layout.proofs.ByForm.{canon_by, canon-form}
use Rattle.arrow_layout.proofs.Denotes.{denote_canon}
use Rattle.arrow_growable.specs.Columns.{child_types, columns_by, IsNested, canon_columns, HaveSlots}
use Rattle.arrow_growable.specs.Parts.{layout_with, first_layout, first_column, rows_in, slots_with, mask_with, HasParts, PartsFit}
use Rattle.arrow_growable.specs.declared.parts.NestedParts.{NestedParts}
use Rattle.arrow_growable.specs.declared.parts.NestedParts.TheVariants as parts_of
use Rattle.arrow_grow_flat.specs.Grown.{Room}
use Rattle.arrow_grow_flat.specs.Masks.{plain_mask}
use Rattle.arrow_grow_flat.specs.Values.{IsMaskOf}
use Rattle.arrow_growable.proofs.ColumnSlots.{children_canon, children_carried, columns_denoted, columns_have, parts_made, chosen_made, dealt_made}

-- ---- the canonical layout

with_by : (t : TypeData) (f : Form) (s : List Slot) (p : NestedParts) → HasParts f s p → canon_by t f s ≡ layout_with t (mask_of s) p (canon_columns (child_types f) (columns_by f s))
with_by t (lists_of false u) s (parts_of.List os) h = ap (λ ns. lists t (mask_of s) ns (canon u (flat_map (items_or []) s))) (sym h)
with_by t (lists_of false u) s (parts_of.Map os) h = ap (λ ns. lists t (mask_of s) ns (canon u (flat_map (items_or []) s))) (sym h)
with_by t (lists_of true u) s (parts_of.LargeList os) h = ap (λ ns. lists t (mask_of s) ns (canon u (flat_map (items_or []) s))) (sym h)
with_by t (fixed_size_lists_of k u) s (parts_of.FixedSizeList j n) h =
    ap₂ (λ i l. fixed_size_lists t (mask_of s) i l (canon u (flat_map (items_or (replicate k (fill u))) s))) (sym h.0) (sym h.1)
with_by t (structs_of fs) s (parts_of.Struct n) h = ap₂ (structs t (mask_of s)) (sym h) (parts_made fs (map (parts_or (fills fs)) s))
with_by t (unions_of Sparse ids fs) s (parts_of.SparseUnion ts) h = ap₂ (sparse_unions t 0) (sym h) (chosen_made (select ids) fs 0 s)
with_by t (unions_of Dense ids fs) s (parts_of.DenseUnion ts os ns) h =
    ap (λ xs. dense_unions t 0 (numbers s) xs (canon_dense (select ids) fs 0 s)) (sym h.1) ∙ ap₂ (λ xs ls. dense_unions t 0 xs os.items ls) (sym h.0) (dealt_made (select ids) fs 0 s)
with_by t _ s _ h = absurd h

pub canon_with : (t : TypeData) (f : Form) (s : List Slot) (p : NestedParts) → form_of t ≡ f → HasParts f s p
    → canon t s ≡ layout_with t (mask_of s) p (canon_columns (child_types f) (columns_by f s))
canon_with t f s p e h = canon-form t f s e ∙ with_by t f s p h

-- ---- what is denoted

first_denoted : (ls : Layouts) → denote (first_layout ls) ≡ first_column (columns ls)
first_denoted no_layouts = refl
first_denoted (child l ls) = refl

rows_denoted : (n : ℕ) (ls : Layouts) → rows n ls ≡ rows_in n (columns ls)
rows_denoted n no_layouts = refl
rows_denoted n (child l ls) = ap (with_column (denote l)) (rows_denoted n ls)

pub denote_with : (t : TypeData) (m : Option Bits) (p : NestedParts) (ls : Layouts) → denote (layout_with t m p ls) ≡ masked (mask_with p m) (slots_with t p (columns ls))
denote_with t m (parts_of.List os) ls = ap (λ xs. masked m (list_slots (map (λ o. o) os) xs)) (first_denoted ls)
denote_with t m (parts_of.LargeList os) ls = ap (λ xs. masked m (list_slots (map (λ o. o) os) xs)) (first_denoted ls)
denote_with t m (parts_of.Map os) ls = ap (λ xs. masked m (list_slots (map (λ o. o) os) xs)) (first_denoted ls)
denote_with t m (parts_of.FixedSizeList k n) ls = ap (λ xs. masked m (fixed_list_slots k n xs)) (first_denoted ls)
denote_with t m (parts_of.Struct n) ls = ap (λ rs. masked m (map parts rs)) (rows_denoted n ls)
denote_with t m (parts_of.SparseUnion ts) ls = refl
denote_with t m (parts_of.DenseUnion ts os ns) ls = refl

-- a mask of which no more is known than which slots are null
shown_one : (x : Slot) → cond (is_valid x) x null ≡ x
shown_one null = refl
shown_one (bool b) = refl
shown_one (num zs) = refl
shown_one (bytes bs) = refl
shown_one (items xs) = refl
shown_one (parts xs) = refl
shown_one (chosen t x) = refl

shown_all : (s : List Slot) → masked_by (map is_valid s) s ≡ s
shown_all [] = refl
shown_all (x ∷ xs) = ap₂ (λ y ys. y ∷ ys) (shown_one x) (shown_all xs)

pub own_slots : (m : Option (List Bool)) (s : List Slot) → IsMaskOf m s → masked (plain_mask m) s ≡ s
own_slots None s h = refl
own_slots (Some bits) s h = ap (λ bs. masked_by bs s) h ∙ shown_all s

all_by : (s : List Slot) → AllByRecursion (λ x. is_valid x ≡ true) s → list_all is_valid s ≡ true
all_by [] h = refl
all_by (x ∷ xs) h = rw (h.0, all_by xs h.1) refl

shown_by : (m : Option (List Bool)) (s v : List Slot) (all : Bool) → list_all is_valid s ≡ all → IsMaskOf m s → masked (cond all None (Some (plain (map is_valid s)))) v ≡ s → masked (plain_mask m) v ≡ s
shown_by m s v true e h k = ap (masked (plain_mask m)) k ∙ own_slots m s h
shown_by None s v false e h k = absurd (false≢true (sym e ∙ all_by s h))
shown_by (Some bits) s v false e h k = ap (λ bs. masked_by bs v) h ∙ k

pub shown : (m : Option (List Bool)) (s v : List Slot) → IsMaskOf m s → masked (mask_of s) v ≡ s → masked (plain_mask m) v ≡ s
shown m s v h k = shown_by m s v (list_all is_valid s) refl h k

shown_with : (p : NestedParts) (m : Option (List Bool)) (s v : List Slot) → IsMaskOf m s → masked (mask_with p (mask_of s)) v ≡ s → (masked (mask_with p (plain_mask m)) v ≡ s) × (masked (plain_mask m) v ≡ s)
shown_with (parts_of.List os) m s v h k = (shown m s v h k, shown m s v h k)
shown_with (parts_of.LargeList os) m s v h k = (shown m s v h k, shown m s v h k)
shown_with (parts_of.Map os) m s v h k = (shown m s v h k, shown m s v h k)
shown_with (parts_of.FixedSizeList i n) m s v h k = (shown m s v h k, shown m s v h k)
shown_with (parts_of.Struct n) m s v h k = (shown m s v h k, shown m s v h k)
shown_with (parts_of.SparseUnion ts) m s v h k = (k, ap (masked (plain_mask m)) k ∙ own_slots m s h)
shown_with (parts_of.DenseUnion ts os ns) m s v h k = (k, ap (masked (plain_mask m)) k ∙ own_slots m s h)

-- the slots of the parts and columns of slots are these
pub nested_by : (f : Form) (s : List Slot) (p : NestedParts) → HasParts f s p → IsNested f
nested_by (lists_of large u) s p h = tt
nested_by (fixed_size_lists_of k u) s p h = tt
nested_by (structs_of fs) s p h = tt
nested_by (unions_of mode ids fs) s p h = tt
nested_by _ s p h = absurd h

pub slots_back : (t : TypeData) (f : Form) (s : List Slot) (p : NestedParts) (m : Option (List Bool)) (cs : List (List Slot)) → form_of t ≡ f → IsCarried t → HasSlots t s → HasParts f s p → IsMaskOf m s
    → cs ≡ columns_by f s → (masked (mask_with p (plain_mask m)) (slots_with t p cs) ≡ s) × (masked (plain_mask m) (slots_with t p cs) ≡ s)
slots_back t f s p m cs e c h k q same =
    let made = columns_denoted (child_types f) (columns_by f s) (children_carried t f e c) (columns_have t f s e c h) in
    let back : masked (mask_with p (mask_of s)) (slots_with t p cs) ≡ s =
    ap (λ ds. masked (mask_with p (mask_of s)) (slots_with t p ds)) (same ∙ sym made)
    ∙ sym (denote_with t (mask_of s) p (canon_columns (child_types f) (columns_by f s)))
    ∙ ap denote (sym (canon_with t f s p e k)) ∙ denote_canon t s c h in
    shown_with p m s (slots_with t p cs) q back

-- ---- where it fits

pub fits_parts : (t : TypeData) (m : Option Bits) (f : Form) (s : List Slot) (p : NestedParts) → HasParts f s p
    → Fits (layout_with t m p (canon_columns (child_types f) (columns_by f s))) → PartsFit t p × AllFit (canon_columns (child_types f) (columns_by f s))
fits_parts t m (lists_of false u) s (parts_of.List os) k h = ((h.0, h.1), (h.2, tt))
fits_parts t m (lists_of false u) s (parts_of.Map os) k h = ((h.0, h.1), (h.2, tt))
fits_parts t m (lists_of true u) s (parts_of.LargeList os) k h = ((h.0, h.1), (h.2, tt))
fits_parts t m (fixed_size_lists_of i u) s (parts_of.FixedSizeList j n) k h = (h.0, (h.1, tt))
fits_parts t m (structs_of fs) s (parts_of.Struct n) k h = (h.0, h.1)
fits_parts t m (unions_of Sparse ids fs) s (parts_of.SparseUnion ts) k h = (h.0, h.1)
fits_parts t m (unions_of Dense ids fs) s (parts_of.DenseUnion ts os ns) k h = ((h.0, h.1), h.2)
fits_parts t m _ s _ k h = absurd k

pub parts_fit : (t : TypeData) (m : Option Bits) (f : Form) (s : List Slot) (p : NestedParts) → HasParts f s p
    → PartsFit t p → AllFit (canon_columns (child_types f) (columns_by f s)) → Fits (layout_with t m p (canon_columns (child_types f) (columns_by f s)))
parts_fit t m (lists_of false u) s (parts_of.List os) k h i = (h.0, h.1, i.0)
parts_fit t m (lists_of false u) s (parts_of.Map os) k h i = (h.0, h.1, i.0)
parts_fit t m (lists_of true u) s (parts_of.LargeList os) k h i = (h.0, h.1, i.0)
parts_fit t m (fixed_size_lists_of z u) s (parts_of.FixedSizeList j n) k h i = (h, i.0)
parts_fit t m (structs_of fs) s (parts_of.Struct n) k h i = (h, i)
parts_fit t m (unions_of Sparse ids fs) s (parts_of.SparseUnion ts) k h i = (h, i)
parts_fit t m (unions_of Dense ids fs) s (parts_of.DenseUnion ts os ns) k h i = (h.0, h.1, i)
parts_fit t m _ s _ k h i = absurd k

-- slots have room where counts and offsets are in their ranges and the columns have room
pub room_with : (t : TypeData) (f : Form) (s : List Slot) (p : NestedParts) → form_of t ≡ f → HasParts f s p → PartsFit t p → AllFit (canon_columns (child_types f) (columns_by f s)) → Room t s
room_with t f s p e k h i = subst Fits (sym (canon_with t f s p e k)) (parts_fit t (mask_of s) f s p k h i)

-- and the other way round, whatever parts are at hand
children_fit : (t : TypeData) (f : Form) (s : List Slot) → IsNested f → Fits (canon_by t f s) → AllFit (children_of (canon_by t f s))
children_fit t (lists_of large u) s n h = (h.2, tt)
children_fit t (fixed_size_lists_of k u) s n h = (h.1, tt)
children_fit t (structs_of fs) s n h = h.1
children_fit t (unions_of Sparse ids fs) s n h = h.1
children_fit t (unions_of Dense ids fs) s n h = h.2
children_fit t _ s n h = absurd n

pub room_columns : (t : TypeData) (f : Form) (s : List Slot) → form_of t ≡ f → IsNested f → Room t s → AllFit (canon_columns (child_types f) (columns_by f s))
room_columns t f s e n h =
    subst AllFit (ap children_of (sym (canon-form t f s e)) ∙ children_canon t f s e n) (children_fit t f s n (subst Fits (canon-form t f s e) h))
