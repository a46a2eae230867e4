-- The columns of slots: of which types they are, and how they join.
use Rattle.std.proofs.Common.{◌≡◌, ℕ, zero, suc, ◌<◌, ◌≤◌, List, [], ◌∷◌, ◌++◌, length, map, replicate, flat_map, refl, ap, ap₂, sym, ◌∙◌, subst, arith}
use Rattle.std.specs.Prelude.{⊤}
use Rattle.std.specs.List.{AllByRecursion}
use Rattle.std.proofs.lemmas.Grind.{flat_map-append}
use Rattle.std.proofs.lemmas.List.{map-append, append-nil}
use Rattle.arrow_types.specs.Carried.{AreCarried, IsCarried, count_fields}
use Rattle.arrow_types.specs.Select.{number_limit, select}
use Rattle.arrow_types.specs.TypeData.{TypeData, FieldList, no_fields, and_field}
use Rattle.arrow_types.specs.TypeData as T
use Rattle.arrow_types.specs.declared.datatype.UnionMode.TheVariants.{Dense, Sparse}
use Rattle.arrow_flat.specs.Slots.{Slot, Slots}
use Rattle.arrow_flat.proofs.Lists.{all_flat_map, all_map, all_weaker}
use Rattle.arrow_layout.specs.Canon.{canon, canon_parts, canon_chosen, canon_dense, items_or, parts_or, first_or, after_first, inner_or, inner_if}
use Rattle.arrow_layout.specs.Denote.{columns, denote}
use Rattle.arrow_layout.specs.Forms.{Form, form_of, lists_of, fixed_size_lists_of, structs_of, unions_of}
use Rattle.arrow_layout.specs.Layouts.{Layouts, no_layouts, child}
use Rattle.arrow_layout.specs.Paths.{children_of}
use Rattle.arrow_layout.specs.SlotsOf.{AreParts, HasSlots, IsPart, IsSlot, fill, fills}
use Rattle.arrow_layout.proofs.ByForm.{canon_by, canon-form, carried_form, IsSlotBy, by-slot}
use Rattle.arrow_layout.proofs.Denotes.{denote_canon, list_items, fixed_items, struct_parts, first_of_more, rest_of_more, of_fields}
use Rattle.arrow_layout.proofs.Fills.{fill_is_slot, fills_are_parts}
use Rattle.arrow_layout.proofs.Unions.{IsFrom, from_next, from_start, inner_has, dense_inner}
use Rattle.arrow_grow_flat.specs.Grown.{copied}
use Rattle.arrow_growable.specs.Columns.{field_types, child_types, part_columns, chosen_columns, dealt_columns, columns_by, IsNested, canon_columns, HaveSlots, joined_columns}

-- ---- the children of a canonical layout

pub parts_made : (fs : FieldList) (rs : List Slots) → canon_parts fs rs ≡ canon_columns (field_types fs) (part_columns fs rs)
parts_made no_fields rs = refl
parts_made (and_field (T.field n t b m) fs) rs = ap (child (canon t (map (first_or (fill t)) rs))) (parts_made fs (map after_first rs))

pub chosen_made : (sel : ℕ → ℕ) (fs : FieldList) (j : ℕ) (s : List Slot) → canon_chosen sel fs j s ≡ canon_columns (field_types fs) (chosen_columns sel fs j s)
chosen_made sel no_fields j s = refl
chosen_made sel (and_field (T.field n t b m) fs) j s = ap (child (canon t (map (inner_or sel (fill t) j) s))) (chosen_made sel fs (suc j) s)

pub dealt_made : (sel : ℕ → ℕ) (fs : FieldList) (j : ℕ) (s : List Slot) → canon_dense sel fs j s ≡ canon_columns (field_types fs) (dealt_columns sel fs j s)
dealt_made sel no_fields j s = refl
dealt_made sel (and_field (T.field n t b m) fs) j s = ap (child (canon t (flat_map (inner_if sel j) s))) (dealt_made sel fs (suc j) s)

made_by : (t : TypeData) (f : Form) (s : List Slot) → IsNested f → children_of (canon_by t f s) ≡ canon_columns (child_types f) (columns_by f s)
made_by t (lists_of large u) s h = refl
made_by t (fixed_size_lists_of k u) s h = refl
made_by t (structs_of fs) s h = parts_made fs (map (parts_or (fills fs)) s)
made_by t (unions_of Sparse ids fs) s h = chosen_made (select ids) fs 0 s
made_by t (unions_of Dense ids fs) s h = dealt_made (select ids) fs 0 s
made_by t _ s h = absurd h

pub children_canon : (t : TypeData) (f : Form) (s : List Slot) → form_of t ≡ f → IsNested f → children_of (canon t s) ≡ canon_columns (child_types f) (columns_by f s)
children_canon t f s e h = ap children_of (canon-form t f s e) ∙ made_by t f s h

-- ---- the slots of columns

parts_have : (fs : FieldList) (rs : List Slots) → AllByRecursion (AreParts fs) rs → HaveSlots (field_types fs) (part_columns fs rs)
parts_have no_fields rs h = tt
parts_have (and_field (T.field n t b m) fs) rs h =
    (all_map _ _ _ (first_of_more (fill t) (IsSlot t) (AreParts fs)) rs h, parts_have fs (map after_first rs) (all_map _ _ _ (rest_of_more (IsSlot t) (AreParts fs)) rs h))

chosen_have : (sel : ℕ → ℕ) (fs : FieldList) (j : ℕ) (s : List Slot) → AreCarried fs → AllByRecursion (IsFrom sel fs j) s → HaveSlots (field_types fs) (chosen_columns sel fs j s)
chosen_have sel no_fields j s c h = tt
chosen_have sel (and_field (T.field n t b m) fs) j s c h =
    (all_map _ _ _ (inner_has sel n t b m fs j (fill_is_slot t c.0)) s h, chosen_have sel fs (suc j) s c.1 (all_weaker _ _ (from_next sel n t b m fs j) s h))

dealt_have : (sel : ℕ → ℕ) (fs : FieldList) (j : ℕ) (s : List Slot) → AllByRecursion (IsFrom sel fs j) s → HaveSlots (field_types fs) (dealt_columns sel fs j s)
dealt_have sel no_fields j s h = tt
dealt_have sel (and_field (T.field n t b m) fs) j s h =
    (all_flat_map _ _ _ (dense_inner sel n t b m fs j) s h, dealt_have sel fs (suc j) s (all_weaker _ _ (from_next sel n t b m fs j) s h))

abbrev AllBy : Form → List Slot → Type 0
AllBy f s = AllByRecursion (IsSlotBy f) s

have_by : (t : TypeData) (f : Form) (s : List Slot) → form_of t ≡ f → IsCarried t → AllBy f s → HaveSlots (child_types f) (columns_by f s)
have_by t (lists_of large u) s e c h = (all_flat_map _ _ _ (list_items (IsSlot u)) s h, tt)
have_by t (fixed_size_lists_of k u) s e c h =
    let d = carried_form t (fixed_size_lists_of k u) e c in
    (all_flat_map _ _ _ (fixed_items k (IsSlot u) (fill u) (fill_is_slot u d.1)) s h, tt)
have_by t (structs_of fs) s e c h =
    let d = carried_form t (structs_of fs) e c in
    parts_have fs (map (parts_or (fills fs)) s) (all_map _ _ _ (struct_parts (AreParts fs) (fills fs) (fills_are_parts fs d)) s h)
have_by t (unions_of Sparse ids fs) s e c h =
    let d = carried_form t (unions_of Sparse ids fs) e c in
    chosen_have (select ids) fs 0 s d.3 (all_weaker _ _ (from_start (select ids) fs) s (of_fields (number_limit ids (count_fields fs)) (select ids) fs s h))
have_by t (unions_of Dense ids fs) s e c h =
    dealt_have (select ids) fs 0 s (all_weaker _ _ (from_start (select ids) fs) s (of_fields (number_limit ids (count_fields fs)) (select ids) fs s h))
have_by t _ s e c h = tt

pub columns_have : (t : TypeData) (f : Form) (s : List Slot) → form_of t ≡ f → IsCarried t → HasSlots t s → HaveSlots (child_types f) (columns_by f s)
columns_have t f s e c h = have_by t f s e c (subst (λ g. AllBy g s) e (all_weaker (IsSlot t) (IsSlotBy (form_of t)) (by-slot t) s h))

-- ---- the types of columns

abbrev pub AllCarried : List TypeData → Type 0
AllCarried ts = AllByRecursion IsCarried ts

fields_carried : (fs : FieldList) → AreCarried fs → AllCarried (field_types fs)
fields_carried no_fields c = tt
fields_carried (and_field (T.field n t b m) fs) c = (c.0, fields_carried fs c.1)

carried_by : (t : TypeData) (f : Form) → form_of t ≡ f → IsCarried t → AllCarried (child_types f)
carried_by t (lists_of large u) e c = (carried_form t (lists_of large u) e c, tt)
carried_by t (fixed_size_lists_of k u) e c = let d = carried_form t (fixed_size_lists_of k u) e c in (d.1, tt)
carried_by t (structs_of fs) e c = fields_carried fs (carried_form t (structs_of fs) e c)
carried_by t (unions_of mode ids fs) e c = let d = carried_form t (unions_of mode ids fs) e c in fields_carried fs d.3
carried_by t _ e c = tt

pub children_carried : (t : TypeData) (f : Form) → form_of t ≡ f → IsCarried t → AllCarried (child_types f)
children_carried t f e c = carried_by t f e c

-- canonical columns denote the columns
pub columns_denoted : (ts : List TypeData) (cs : List (List Slot)) → AllCarried ts → HaveSlots ts cs → columns (canon_columns ts cs) ≡ cs
columns_denoted [] [] c h = refl
columns_denoted [] (x ∷ cs) c h = absurd h
columns_denoted (t ∷ ts) [] c h = absurd h
columns_denoted (t ∷ ts) (x ∷ cs) c h = ap₂ (λ y ys. y ∷ ys) (denote_canon t x c.0 h.0) (columns_denoted ts cs c.1 h.1)

-- ---- columns of joined lists

parts_join : (fs : FieldList) (rs qs : List Slots) → part_columns fs (rs ++ qs) ≡ joined_columns (part_columns fs rs) (part_columns fs qs)
parts_join no_fields rs qs = refl
parts_join (and_field (T.field n t b m) fs) rs qs =
    ap₂ (λ c cs. c ∷ cs) (map-append (first_or (fill t)) rs qs) (ap (part_columns fs) (map-append after_first rs qs) ∙ parts_join fs (map after_first rs) (map after_first qs))

chosen_join : (sel : ℕ → ℕ) (fs : FieldList) (j : ℕ) (s r : List Slot) → chosen_columns sel fs j (s ++ r) ≡ joined_columns (chosen_columns sel fs j s) (chosen_columns sel fs j r)
chosen_join sel no_fields j s r = refl
chosen_join sel (and_field (T.field n t b m) fs) j s r = ap₂ (λ c cs. c ∷ cs) (map-append (inner_or sel (fill t) j) s r) (chosen_join sel fs (suc j) s r)

dealt_join : (sel : ℕ → ℕ) (fs : FieldList) (j : ℕ) (s r : List Slot) → dealt_columns sel fs j (s ++ r) ≡ joined_columns (dealt_columns sel fs j s) (dealt_columns sel fs j r)
dealt_join sel no_fields j s r = refl
dealt_join sel (and_field (T.field n t b m) fs) j s r = ap₂ (λ c cs. c ∷ cs) (flat_map-append (inner_if sel j) s r) (dealt_join sel fs (suc j) s r)

pub columns_join : (f : Form) (s r : List Slot) → columns_by f (s ++ r) ≡ joined_columns (columns_by f s) (columns_by f r)
columns_join (lists_of large t) s r = ap (λ c. c ∷ []) (flat_map-append (items_or []) s r)
columns_join (fixed_size_lists_of k t) s r = ap (λ c. c ∷ []) (flat_map-append (items_or (replicate k (fill t))) s r)
columns_join (structs_of fs) s r = ap (part_columns fs) (map-append (parts_or (fills fs)) s r) ∙ parts_join fs (map (parts_or (fills fs)) s) (map (parts_or (fills fs)) r)
columns_join (unions_of Sparse ids fs) s r = chosen_join (select ids) fs 0 s r
columns_join (unions_of Dense ids fs) s r = dealt_join (select ids) fs 0 s r
columns_join _ s r = refl

pub columns_count : (f : Form) (s r : List Slot) → length (columns_by f s) ≡ length (columns_by f r)
columns_count (lists_of large t) s r = refl
columns_count (fixed_size_lists_of k t) s r = refl
columns_count (structs_of fs) s r = same fs (map (parts_or (fills fs)) s) (map (parts_or (fills fs)) r) where
  same : (fs : FieldList) (rs qs : List Slots) → length (part_columns fs rs) ≡ length (part_columns fs qs)
  same no_fields rs qs = refl
  same (and_field (T.field n t b m) fs) rs qs = ap suc (same fs (map after_first rs) (map after_first qs))
columns_count (unions_of Sparse ids fs) s r = same (select ids) fs 0 where
  same : (sel : ℕ → ℕ) (fs : FieldList) (j : ℕ) → length (chosen_columns sel fs j s) ≡ length (chosen_columns sel fs j r)
  same sel no_fields j = refl
  same sel (and_field (T.field n t b m) fs) j = ap suc (same sel fs (suc j))
columns_count (unions_of Dense ids fs) s r = same (select ids) fs 0 where
  same : (sel : ℕ → ℕ) (fs : FieldList) (j : ℕ) → length (dealt_columns sel fs j s) ≡ length (dealt_columns sel fs j r)
  same sel no_fields j = refl
  same sel (and_field (T.field n t b m) fs) j = ap suc (same sel fs (suc j))
columns_count _ s r = refl

-- columns of a list that is taken many times
copied_join : (n : ℕ) (cs : List (List Slot)) → joined_columns cs (map (copied n) cs) ≡ map (copied (suc n)) cs
copied_join n [] = refl
copied_join n (c ∷ cs) = ap (λ ds. copied (suc n) c ∷ ds) (copied_join n cs)

pub no_columns : (f : Form) (r : List Slot) → columns_by f [] ≡ map (copied 0) (columns_by f r)
no_columns (lists_of large t) r = refl
no_columns (fixed_size_lists_of k t) r = refl
no_columns (structs_of fs) r = none fs (map (parts_or (fills fs)) r) where
  none : (fs : FieldList) (rs : List Slots) → part_columns fs [] ≡ map (copied 0) (part_columns fs rs)
  none no_fields rs = refl
  none (and_field (T.field n t b m) fs) rs = ap (λ ds. [] ∷ ds) (none fs (map after_first rs))
no_columns (unions_of Sparse ids fs) r = none (select ids) fs 0 where
  none : (sel : ℕ → ℕ) (fs : FieldList) (j : ℕ) → chosen_columns sel fs j [] ≡ map (copied 0) (chosen_columns sel fs j r)
  none sel no_fields j = refl
  none sel (and_field (T.field n t b m) fs) j = ap (λ ds. [] ∷ ds) (none sel fs (suc j))
no_columns (unions_of Dense ids fs) r = none (select ids) fs 0 where
  none : (sel : ℕ → ℕ) (fs : FieldList) (j : ℕ) → dealt_columns sel fs j [] ≡ map (copied 0) (dealt_columns sel fs j r)
  none sel no_fields j = refl
  none sel (and_field (T.field n t b m) fs) j = ap (λ ds. [] ∷ ds) (none sel fs (suc j))
no_columns _ r = refl

pub columns_copied : (f : Form) (n : ℕ) (r : List Slot) → columns_by f (copied n r) ≡ map (copied n) (columns_by f r)
columns_copied f zero r = no_columns f r
columns_copied f (suc n) r = columns_join f r (copied n r) ∙ ap (joined_columns (columns_by f r)) (columns_copied f n r) ∙ copied_join n (columns_by f r)
