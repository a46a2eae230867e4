-- The canonical layout denotes the slots that it was built from.
-- ---- what each kind keeps of a valid slot, and what the children of a canonical layout are built from
use Rattle.std.proofs.Common.{Bool, List, [], ap, ap₂, cond, false, flat_map, get_or, length, map, pos, refl, replicate, suc, sym, true, ℕ, ◌<◌, ◌∙◌, ◌∷◌, ◌≡◌}
use Rattle.std.proofs.lemmas.Bool.{false≢true}
use Rattle.std.proofs.lemmas.List.{length-map, length-replicate}
use Rattle.std.specs.List.{AllByRecursion}
use Rattle.arrow_types.specs.Carried.{AreCarried, IsCarried, count_fields}
use Rattle.arrow_types.specs.Select.{number_limit, select, nat_of}
use Rattle.arrow_types.specs.TypeData.{FieldList, TypeData, and_field, no_fields}
use Rattle.arrow_types.specs.declared.datatype.UnionMode.TheVariants.{Dense, Sparse}
use Rattle.arrow_flat.specs.Slots.{Slot, Slots, bool, bytes, chosen, is_valid, items, no_slots, null, num, slots_of, parts, slot}
use Rattle.arrow_layout.specs.Canon.{canon, canon_chosen, canon_dense, canon_parts, counts_after, distinct, first_or, first_place, inner_if, inner_or, items_or, key_in, mask_of, number_chosen, numbers, offsets, parts_or, after_first}
use Rattle.arrow_layout.specs.Denote.{columns, denote, dictionary_slots, fixed_list_slots, list_slots, masked, rows, with_column}
use Rattle.arrow_layout.specs.Forms.{form_of}
use Rattle.arrow_layout.specs.SlotsOf.{AreParts, HasSlots, IsDictionarySlot, IsFixedListSlot, IsListSlot, IsNone, IsOneMore, IsPart, IsSlot, IsStructSlot, IsUnionSlot, fill, fills}
use Rattle.arrow_layout.proofs.ByForm.{type-canon}
use Rattle.arrow_layout.proofs.Dense.{dense_case, places}
use Rattle.arrow_layout.proofs.Distinct.{all_distinct, all_taken, get_place}
use Rattle.arrow_layout.proofs.Fills.{fill_is_slot, fills_are_parts}
use Rattle.arrow_layout.proofs.FlatDenotes.{flat_denotes}
use Rattle.arrow_flat.proofs.Lists.{all_flat_map, all_map, all_replicate, all_weaker, drop_none, map-map, packed-unpacked}
use Rattle.arrow_layout.proofs.Masks.{Keeps, masked_map}
use Rattle.arrow_layout.proofs.Pieces.{chunks_joined, pieces_joined, to_nat-pos}
use Rattle.arrow_layout.proofs.Retyped.{denote-retyped}
use Rattle.arrow_layout.proofs.Unions.{IsFrom, IsOfFields, dense_columns, dense_inner, from_next, from_start, inner_columns, inner_has, sparse_case}
use Rattle.arrow_types.specs.TypeData as T

pub keeps_items : (d : List Slot) (P : Slot → Type 0) (x : Slot) → IsListSlot P x → Keeps (λ y. items (slots_of (items_or d y))) x
keeps_items d P null h e = absurd (false≢true e)
keeps_items d P (items xs) h e = ap items (packed-unpacked xs)
keeps_items d P _ h e = absurd h

pub keeps_parts : (d : Slots) (P : Slots → Type 0) (x : Slot) → IsStructSlot P x → Keeps (λ y. parts (parts_or d y)) x
keeps_parts d P null h e = absurd (false≢true e)
keeps_parts d P (parts xs) h e = refl
keeps_parts d P _ h e = absurd h

pub list_from_fixed : (k : ℕ) (P : Slot → Type 0) (x : Slot) → IsFixedListSlot k P x → IsListSlot P x
list_from_fixed k P null h = tt
list_from_fixed k P (items xs) h = h.1
list_from_fixed k P _ h = absurd h

pub list_items : (P : Slot → Type 0) (x : Slot) → IsListSlot P x → AllByRecursion P (items_or [] x)
list_items P null h = tt
list_items P (items xs) h = h
list_items P _ h = absurd h

pub fixed_items : (k : ℕ) (P : Slot → Type 0) (y : Slot) → P y → (x : Slot) → IsFixedListSlot k P x → AllByRecursion P (items_or (replicate k y) x)
fixed_items k P y f null h = all_replicate P k y f
fixed_items k P y f (items xs) h = h.1
fixed_items k P y f _ h = absurd h

pub fixed_length : (k : ℕ) (P : Slot → Type 0) (y : Slot) (x : Slot) → IsFixedListSlot k P x → length (items_or (replicate k y) x) ≡ k
fixed_length k P y null h = length-replicate k y
fixed_length k P y (items xs) h = h.0
fixed_length k P y _ h = absurd h

pub struct_parts : (P : Slots → Type 0) (d : Slots) → P d → (x : Slot) → IsStructSlot P x → P (parts_or d x)
struct_parts P d f null h = f
struct_parts P d f (parts xs) h = h
struct_parts P d f _ h = absurd h

pub dictionary_value : (P : Slot → Type 0) (x : Slot) → IsDictionarySlot P x → is_valid x ≡ true → P x
dictionary_value P null h e = absurd (false≢true e)
dictionary_value P (bool z) h e = h
dictionary_value P (num z) h e = h
dictionary_value P (bytes bs) h e = h
dictionary_value P (items xs) h e = h
dictionary_value P (parts xs) h e = h
dictionary_value P (chosen t x) h e = h

-- the slot of a union selects a part
pub union_part : (A : ℕ → Type 0) (B : ℕ → Slot → Type 0) (x : Slot) → IsUnionSlot (λ t y. A t × B t y) x → IsUnionSlot B x
union_part A B (chosen t y) h = h.1
union_part A B _ h = absurd h

pub firsts_and_rests : (y : Slot) (P : Slot → Type 0) (Q : Slots → Type 0) (rs : List Slots) → AllByRecursion (IsOneMore P Q) rs
    → with_column (map (first_or y) rs) (map after_first rs) ≡ rs
firsts_and_rests y P Q [] h = refl
firsts_and_rests y P Q (no_slots ∷ rs) h = absurd h.0
firsts_and_rests y P Q (slot x r ∷ rs) h = ap (λ qs. slot x r ∷ qs) (firsts_and_rests y P Q rs h.1)

pub first_of_more : (y : Slot) (P : Slot → Type 0) (Q : Slots → Type 0) (r : Slots) → IsOneMore P Q r → P (first_or y r)
first_of_more y P Q no_slots h = absurd h
first_of_more y P Q (slot x r) h = h.0

pub rest_of_more : (P : Slot → Type 0) (Q : Slots → Type 0) (r : Slots) → IsOneMore P Q r → Q (after_first r)
rest_of_more P Q no_slots h = absurd h
rest_of_more P Q (slot x r) h = h.1

no_rows : (rs : List Slots) → AllByRecursion IsNone rs → replicate (length rs) no_slots ≡ rs
no_rows [] h = refl
no_rows (no_slots ∷ rs) h = ap (λ qs. no_slots ∷ qs) (no_rows rs h.1)
no_rows (slot x r ∷ rs) h = absurd h.0

-- ---- each kind, from what its children denote

list_case : (P : Slot → Type 0) (s inner : List Slot) → AllByRecursion (IsListSlot P) s → inner ≡ flat_map (items_or []) s
    → masked (mask_of s) (list_slots (offsets (map (λ x. length (items_or [] x)) s)) inner) ≡ s
list_case P s inner h e =
    rw (e, pieces_joined (items_or []) s, map-map (λ xs. items (slots_of xs)) (items_or []) s)
    (masked_map (λ y. items (slots_of (items_or [] y))) s (all_weaker _ _ (keeps_items [] P) s h))

fixed_case : (k : ℕ) (P : Slot → Type 0) (y : Slot) (s inner : List Slot) → AllByRecursion (IsFixedListSlot k P) s → inner ≡ flat_map (items_or (replicate k y)) s
    → masked (mask_of s) (fixed_list_slots k (length s) inner) ≡ s
fixed_case k P y s inner h e =
    let d = replicate k y in
    rw (e, chunks_joined k (items_or d) s (all_weaker _ _ (fixed_length k P y) s h), map-map (λ xs. items (slots_of xs)) (items_or d) s)
    (masked_map (λ z. items (slots_of (items_or d z))) s (all_weaker _ _ (λ x q. keeps_items d P x (list_from_fixed k P x q)) s h))

struct_case : (P : Slots → Type 0) (d : Slots) (s : List Slot) (rs : List Slots) → AllByRecursion (IsStructSlot P) s → rs ≡ map (parts_or d) s
    → masked (mask_of s) (map parts rs) ≡ s
struct_case P d s rs h e =
    rw (e, map-map parts (parts_or d) s) (masked_map (λ y. parts (parts_or d y)) s (all_weaker _ _ (keeps_parts d P) s h))

pub key_of_valid : (d : List Slot) (x : Slot) (v : Bool) → v ≡ true → nat_of (cond v (pos (first_place x d)) (pos 0)) ≡ first_place x d
key_of_valid d x true e = refl
key_of_valid d x false e = absurd (false≢true e)

keys_case : (s inner : List Slot) → inner ≡ distinct s → masked (mask_of s) (dictionary_slots (map (key_in (distinct s)) s) inner) ≡ s
keys_case s inner e =
    rw (e, map-map (λ k. get_or (distinct s) (nat_of k) null) (key_in (distinct s)) s)
    (masked_map (λ x. get_or (distinct s) (nat_of (key_in (distinct s) x)) null) s
    (all_weaker _ _ (λ x q v. rw (key_of_valid (distinct s) x (is_valid x) v) (get_place x (distinct s) (q v))) s (all_taken [] s)))

pub to_nat-numbers : (s : List Slot) → map nat_of (numbers s) ≡ map number_chosen s
to_nat-numbers s = map-map nat_of (λ x. pos (number_chosen x)) s

-- the slots of a union are from its fields
pub of_fields : (limit : ℕ) (select_field : ℕ → ℕ) (fs : FieldList) (s : List Slot) → AllByRecursion (IsUnionSlot (λ t x. (t < limit) × IsPart fs (select_field t) x)) s
    → AllByRecursion (IsOfFields select_field fs) s
of_fields limit select_field fs s h = all_weaker _ _ (union_part (λ t. t < limit) (λ t x. IsPart fs (select_field t) x)) s h

mutual
  pub denote_canon : (t : TypeData) (s : List Slot) → IsCarried t → HasSlots t s → denote (canon t s) ≡ s
  denote_canon (T.list (T.field n t b m)) s c h =
      list_case (IsSlot t) s _ h (denote_canon t (flat_map (items_or []) s) c (all_flat_map _ _ _ (list_items (IsSlot t)) s h))
  denote_canon (T.large_list (T.field n t b m)) s c h =
      list_case (IsSlot t) s _ h (denote_canon t (flat_map (items_or []) s) c (all_flat_map _ _ _ (list_items (IsSlot t)) s h))
  denote_canon (T.map (T.field n t b m) o) s c h =
      list_case (IsSlot t) s _ h (denote_canon t (flat_map (items_or []) s) c.1 (all_flat_map _ _ _ (list_items (IsSlot t)) s h))
  denote_canon (T.fixed_size_list (T.field n t b m) k) s c h =
      fixed_case k (IsSlot t) (fill t) s _ h
      (denote_canon t (flat_map (items_or (replicate k (fill t))) s) c.1 (all_flat_map _ _ _ (fixed_items k (IsSlot t) (fill t) (fill_is_slot t c.1)) s h))
  denote_canon (T.struct fs) s c h =
      struct_case (AreParts fs) (fills fs) s _ h
      (rows_canon fs (length s) (map (parts_or (fills fs)) s) (length-map s (parts_or (fills fs))) c (all_map _ _ _ (struct_parts (AreParts fs) (fills fs) (fills_are_parts fs c)) s h))
  denote_canon (T.union fs ids Sparse) s c h =
      let of = of_fields (number_limit ids (count_fields fs)) (select ids) fs s h in
      rw (columns_canon (select ids) fs 0 s c.3 (all_weaker _ _ (from_start (select ids) fs) s of), drop_none (inner_columns (select ids) fs 0 s), to_nat-numbers s)
      (sparse_case (select ids) fs s of)
  denote_canon (T.union fs ids Dense) s c h =
      let of = of_fields (number_limit ids (count_fields fs)) (select ids) fs s h in
      rw (dense_canon (select ids) fs 0 s c.3 (all_weaker _ _ (from_start (select ids) fs) s of), to_nat-numbers s, to_nat-pos (counts_after [] (places (select ids) s)))
      (dense_case (select ids) fs s of)
  denote_canon (T.dictionary k t o) s c h =
      keys_case s _ (denote_canon t (distinct s) c (all_distinct (IsSlot t) [] s tt (all_weaker _ _ (dictionary_value (IsSlot t)) s h)))
  denote_canon (T.extension n t m) s c h = denote-retyped (T.extension n t m) (canon t s) (ap form_of (sym (type-canon t s))) ∙ denote_canon t s c h
  denote_canon t s c h = flat_denotes t (form_of t) s h

  pub rows_canon : (fs : FieldList) (n : ℕ) (rs : List Slots) → length rs ≡ n → AreCarried fs → AllByRecursion (AreParts fs) rs → rows n (canon_parts fs rs) ≡ rs
  rows_canon no_fields n rs e c h = rw (← e) (no_rows rs h)
  rows_canon (and_field (T.field name t b m) fs) n rs e c h =
      rw (
        denote_canon t (map (first_or (fill t)) rs) c.0 (all_map _ _ _ (first_of_more (fill t) (IsSlot t) (AreParts fs)) rs h),
        rows_canon fs n (map after_first rs) (length-map rs after_first ∙ e) c.1 (all_map _ _ _ (rest_of_more (IsSlot t) (AreParts fs)) rs h),
      )
      (firsts_and_rests (fill t) (IsSlot t) (AreParts fs) rs h)

  pub columns_canon : (select_field : ℕ → ℕ) (fs : FieldList) (j : ℕ) (s : List Slot) → AreCarried fs → AllByRecursion (IsFrom select_field fs j) s
      → columns (canon_chosen select_field fs j s) ≡ inner_columns select_field fs j s
  columns_canon select_field no_fields j s c h = refl
  columns_canon select_field (and_field (T.field n t b m) fs) j s c h =
      ap₂ (λ x xs. x ∷ xs)
      (denote_canon t (map (inner_or select_field (fill t) j) s) c.0 (all_map _ _ _ (inner_has select_field n t b m fs j (fill_is_slot t c.0)) s h))
      (columns_canon select_field fs (suc j) s c.1 (all_weaker _ _ (from_next select_field n t b m fs j) s h))

  pub dense_canon : (select_field : ℕ → ℕ) (fs : FieldList) (j : ℕ) (s : List Slot) → AreCarried fs → AllByRecursion (IsFrom select_field fs j) s
      → columns (canon_dense select_field fs j s) ≡ dense_columns select_field fs j s
  dense_canon select_field no_fields j s c h = refl
  dense_canon select_field (and_field (T.field n t b m) fs) j s c h =
      ap₂ (λ x xs. x ∷ xs)
      (denote_canon t (flat_map (inner_if select_field j) s) c.0 (all_flat_map _ _ _ (dense_inner select_field n t b m fs j) s h))
      (dense_canon select_field fs (suc j) s c.1 (all_weaker _ _ (from_next select_field n t b m fs j) s h))
