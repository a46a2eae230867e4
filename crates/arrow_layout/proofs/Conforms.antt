-- A well-formed layout denotes slots of its type.
use Rattle.std.proofs.Common.{Bool, List, None, Option, Some, [], ap, ap₂, arith, drop, false, get_or, length, length-drop, length-take, length-take-le, map, negsuc, pos, refl, subst, suc, sym, true, zero, ℕ, ℤ, ◌*◌, ◌+◌, ◌-◌, ◌<◌, ◌^◌, ◌∙◌, ◌∷◌, ◌≡◌, ◌≤◌}
use Rattle.std.specs.List.{AllByRecursion}
use Rattle.std.specs.Prelude.{⊤}
use Rattle.arrow_types.specs.Carried.{IsBelow, IsCarried, count_fields}
use Rattle.arrow_types.specs.Select.{select, nat_of}
use Rattle.arrow_types.specs.TypeData.{FieldList, TypeData, and_field, no_fields}
use Rattle.arrow_types.specs.Types.{logical_of}
use Rattle.arrow_types.specs.declared.datatype.UnionMode.{UnionMode}
use Rattle.arrow_types.specs.declared.datatype.UnionMode.TheVariants.{Dense, Sparse}
use Rattle.arrow_buffers.specs.Bits.{Bits}
use Rattle.arrow_flat.specs.Numbers.{AreInRange, ranges_of}
use Rattle.arrow_flat.specs.Slots.{Slot, Slots, bool, bytes, chosen, items, no_slots, null, num, slots_of, parts}
use Rattle.arrow_flat.specs.Views.{IsView, View, inline, long, view_bytes}
use Rattle.arrow_layout.specs.Denote.{columns, denote, dense_slots, dictionary_slots, first_slot, masked, masked_by, rows, sparse_slots, view_slots, with_column}
use Rattle.arrow_flat.specs.Pieces.{chunks, pieces, pieces_from}
use Rattle.arrow_layout.specs.Forms.{booleans_of, fields_by, form_of, ids_by, nulls_of, primitive_by, primitives_of, text_by, unions_of, value_by}
use Rattle.arrow_layout.specs.Layouts.{Layout, Layouts, binaries, booleans, child, dense_unions, dictionaries, fixed_size_binaries, fixed_size_lists, lengths_of, lists, no_layouts, nulls, primitives, sparse_unions, structs, type_of, views}
use Rattle.arrow_flat.specs.Natives.{AreBytes}
use Rattle.arrow_layout.specs.SlotsOf.{AreParts, HasSlots, IsBinarySlot, IsBooleanSlot, IsDictionarySlot, IsFixedBinarySlot, IsFixedListSlot, IsListSlot, IsNone, IsNullSlot, IsNumberSlot, IsOneMore, IsPart, IsSlot, IsStructSlot, IsTextIf, IsUnionSlot, IsViewSlot}
use Rattle.arrow_layout.specs.WellFormed.{AllNamed, AreWellFormed, HaveTypes, WellFormed, type_limit}
use Rattle.arrow_layout.proofs.ByForm.{carried_form, slot-from_logical, slot-to_logical, slots_form}
use Rattle.arrow_layout.proofs.Fills.{select_below}
use Rattle.arrow_layout.proofs.Lengths.{length-denote}
use Rattle.arrow_flat.proofs.Lists.{all_any, all_drop, all_map, all_replicate, all_take, all_weaker, unpacked-packed}
use Rattle.arrow_types.specs.TypeData as T

all_masked_by : (P : Slot → Type 0) → P null → (bits : List Bool) (xs : List Slot) → AllByRecursion P xs → AllByRecursion P (masked_by bits xs)
all_masked_by P z [] xs h = h
all_masked_by P z (b ∷ bits) [] h = tt
all_masked_by P z (true ∷ bits) (x ∷ xs) h = (h.0, all_masked_by P z bits xs h.1)
all_masked_by P z (false ∷ bits) (x ∷ xs) h = (z, all_masked_by P z bits xs h.1)

pub all_masked : (P : Slot → Type 0) → P null → (m : Option Bits) (xs : List Slot) → AllByRecursion P xs → AllByRecursion P (masked m xs)
all_masked P z None xs h = h
all_masked P z (Some b) xs h = all_masked_by P z b.bits xs h

module _ {A : Type 0} (P : A → Type 0) where
  all_pieces_from : (a : ℕ) (os : List ℕ) (xs : List A) → AllByRecursion P xs → AllByRecursion (AllByRecursion P) (pieces_from a os xs)
  all_pieces_from a [] xs h = tt
  all_pieces_from a (b ∷ os) xs h = (all_take P (b - a) (drop a xs) (all_drop P a xs h), all_pieces_from b os xs h)

  pub all_pieces : (os : List ℕ) (xs : List A) → AllByRecursion P xs → AllByRecursion (AllByRecursion P) (pieces os xs)
  all_pieces [] xs h = tt
  all_pieces (a ∷ os) xs h = all_pieces_from a os xs h

  pub all_chunks : (k n : ℕ) (xs : List A) → length xs ≡ n * k → AllByRecursion P xs → AllByRecursion (λ ys. (length ys ≡ k) × AllByRecursion P ys) (chunks k n xs)
  all_chunks k zero xs e h = tt
  all_chunks k (suc n) xs e h =
      ((length-take-le k xs (grind (arith, e)), all_take P k xs h), all_chunks k n (drop k xs) (grind (arith, length-drop k xs, e)) (all_drop P k xs h))

  pub all_at : (xss : List (List A)) (i : ℕ) → AllByRecursion (AllByRecursion P) xss → AllByRecursion P (get_or xss i [])
  all_at [] i h = tt
  all_at (xs ∷ xss) zero h = h.0
  all_at (xs ∷ xss) (suc i) h = all_at xss i h.1

view_value : (buffers : List (List ℕ)) (v : View) → AllByRecursion AreBytes buffers → IsView buffers v → AreBytes (view_bytes buffers v) × (length (view_bytes buffers v) < 2 ^ 32)
view_value buffers (inline n bs) h w = (all_take (λ b. b < 256) n bs w.3, omega (arith, length-take n bs, w.0))
view_value buffers (long n p b o) h w = (
  all_take (λ c. c < 256) n (drop o (get_or buffers b [])) (all_drop (λ c. c < 256) o (get_or buffers b []) (all_at (λ c. c < 256) buffers b h)),
  omega (arith, length-take n (drop o (get_or buffers b [])), w.4),
)

view_values : (buffers : List (List ℕ)) (text : Bool) (vs : List View) → AllByRecursion AreBytes buffers → AllByRecursion (IsView buffers) vs → AllByRecursion (IsTextIf text) (map (view_bytes buffers) vs)
    → AllByRecursion (IsViewSlot text) (view_slots buffers vs)
view_values buffers text [] h w k = tt
view_values buffers text (v ∷ vs) h w k = let one = view_value buffers v h w.0 in ((one.0, k.0, one.1), view_values buffers text vs h w.1 k.1)

binary_values : (text : Bool) (xss : List (List ℕ)) → AllByRecursion AreBytes xss → AllByRecursion (IsTextIf text) xss → AllByRecursion (IsBinarySlot text) (map bytes xss)
binary_values text [] h k = tt
binary_values text (xs ∷ xss) h k = ((h.0, k.0), binary_values text xss h.1 k.1)

list_slot : (P : Slot → Type 0) (xs : List Slot) → AllByRecursion P xs → IsListSlot P (items (slots_of xs))
list_slot P xs h = subst (AllByRecursion P) (sym (unpacked-packed xs)) h

fixed_slot : (k : ℕ) (P : Slot → Type 0) (xs : List Slot) → (length xs ≡ k) × AllByRecursion P xs → IsFixedListSlot k P (items (slots_of xs))
fixed_slot k P xs h = subst (λ ys. (length ys ≡ k) × AllByRecursion P ys) (sym (unpacked-packed xs)) h

dictionary_slot : (P : Slot → Type 0) (x : Slot) → P x → IsDictionarySlot P x
dictionary_slot P null h = tt
dictionary_slot P (bool b) h = h
dictionary_slot P (num z) h = h
dictionary_slot P (bytes bs) h = h
dictionary_slot P (items xs) h = h
dictionary_slot P (parts xs) h = h
dictionary_slot P (chosen t x) h = h

value_slot : (P : Slot → Type 0) (xs : List Slot) (n : ℕ) → AllByRecursion P xs → IsDictionarySlot P (get_or xs n null)
value_slot P [] n h = tt
value_slot P (x ∷ xs) zero h = dictionary_slot P x h.0
value_slot P (x ∷ xs) (suc n) h = value_slot P xs n h.1

key_slots : (P : Slot → Type 0) (ks : List ℤ) (inner : List Slot) → AllByRecursion P inner → AllByRecursion (IsDictionarySlot P) (dictionary_slots ks inner)
key_slots P [] inner h = tt
key_slots P (k ∷ ks) inner h = (value_slot P inner (nat_of k) h, key_slots P ks inner h)

column_parts : (P : Slot → Type 0) (Q : Slots → Type 0) (xs : List Slot) (rs : List Slots) → AllByRecursion P xs → AllByRecursion Q rs → AllByRecursion (IsOneMore P Q) (with_column xs rs)
column_parts P Q [] rs h k = tt
column_parts P Q (x ∷ xs) [] h k = tt
column_parts P Q (x ∷ xs) (r ∷ rs) h k = ((h.0, k.0), column_parts P Q xs rs h.1 k.1)

-- ---- unions

-- columns of n slots or more of the fields' types
abbrev pub AreColumns : FieldList → ℕ → List (List Slot) → Type 0
AreColumns no_fields n [] = ⊤
AreColumns no_fields n (c ∷ cs) = ⊥
AreColumns (and_field f fs) n [] = ⊥
AreColumns (and_field f fs) n (c ∷ cs) = HasSlots (T.field_type f) c × (n ≤ length c) × AreColumns fs n cs

next_columns : (fs : FieldList) (n : ℕ) (cs : List (List Slot)) → AreColumns fs (suc n) cs → AreColumns fs n (map (drop 1) cs)
next_columns no_fields n [] h = tt
next_columns no_fields n (c ∷ cs) h = absurd h
next_columns (and_field f fs) n [] h = absurd h
next_columns (and_field f fs) n (c ∷ cs) h = (all_drop (IsSlot (T.field_type f)) 1 c h.0, omega (arith, length-drop 1 c, h.1), next_columns fs n cs h.2)

first_is : (t : TypeData) (n : ℕ) (c : List Slot) → HasSlots t c → suc n ≤ length c → IsSlot t (first_slot c)
first_is t n [] h e = absurd (omega arith)
first_is t n (x ∷ c) h e = h.0

part_at : (fs : FieldList) (n i : ℕ) (cs : List (List Slot)) → AreColumns fs (suc n) cs → i < count_fields fs → IsPart fs i (first_slot (get_or cs i []))
part_at no_fields n i cs h e = absurd (omega arith)
part_at (and_field f fs) n i [] h e = absurd h
part_at (and_field (T.field name t b m) fs) n zero (c ∷ cs) h e = first_is t n c h.0 h.1
part_at (and_field (T.field name t b m) fs) n (suc i) (c ∷ cs) h e = part_at fs n i cs h.2 (omega arith)

slot_at : (t : TypeData) (c : List Slot) (o : ℕ) → HasSlots t c → o < length c → IsSlot t (get_or c o null)
slot_at t [] o h e = absurd (omega arith)
slot_at t (x ∷ c) zero h e = h.0
slot_at t (x ∷ c) (suc o) h e = slot_at t c o h.1 (omega arith)

dense_at : (fs : FieldList) (i o : ℕ) (cs : List (List Slot)) (lens : List ℕ) → AreColumns fs 0 cs → lens ≡ map length cs → i < count_fields fs → o < get_or lens i 0 → IsPart fs i (get_or (get_or cs i []) o null)
dense_at no_fields i o cs lens h e b n = absurd (omega arith)
dense_at (and_field f fs) i o [] lens h e b n = absurd h
dense_at (and_field (T.field name t c m) fs) zero o (col ∷ cs) lens h e b n = slot_at t col o h.0 (subst (λ ns. o < get_or ns 0 0) e n)
dense_at (and_field (T.field name t c m) fs) (suc i) o (col ∷ cs) [] h e b n = absurd (omega arith)
dense_at (and_field (T.field name t c m) fs) (suc i) o (col ∷ cs) (len ∷ lens) h e b n = dense_at fs i o cs lens h.2 (ap (drop 1) e) (omega arith) n

-- which numbers select which fields: a legal one selects a field that there is
abbrev pub Selects : ℕ → (ℕ → ℕ) → FieldList → Type 0
Selects limit select_field fs = (t : ℕ) → t < limit → select_field t < count_fields fs

sparse_conform : (limit : ℕ) (select_field : ℕ → ℕ) (fs : FieldList) → Selects limit select_field fs → (ts : List ℤ) (cs : List (List Slot)) → AllByRecursion (IsBelow limit) ts → AreColumns fs (length ts) cs
    → AllByRecursion (IsUnionSlot (λ t x. (t < limit) × IsPart fs (select_field t) x)) (sparse_slots select_field (map nat_of ts) cs)
sparse_conform limit select_field fs sel [] cs h k = tt
sparse_conform limit select_field fs sel (pos t ∷ ts) cs h k =
    ((h.0, part_at fs (length ts) (select_field t) cs k (sel t h.0)), sparse_conform limit select_field fs sel ts (map (drop 1) cs) h.1 (next_columns fs (length ts) cs k))
sparse_conform limit select_field fs sel (negsuc t ∷ ts) cs h k = absurd h.0

dense_conform : (limit : ℕ) (select_field : ℕ → ℕ) (fs : FieldList) → Selects limit select_field fs → (ts : List ℤ) (os : List ℕ) (cs : List (List Slot)) (lens : List ℕ) → AllByRecursion (IsBelow limit) ts
    → AllNamed lens (map select_field (map nat_of ts)) os → AreColumns fs 0 cs → lens ≡ map length cs
    → AllByRecursion (IsUnionSlot (λ t x. (t < limit) × IsPart fs (select_field t) x)) (dense_slots select_field (map nat_of ts) os cs)
dense_conform limit select_field fs sel [] os cs lens b n h e = tt
dense_conform limit select_field fs sel (t ∷ ts) [] cs lens b n h e = absurd n
dense_conform limit select_field fs sel (pos t ∷ ts) (o ∷ os) cs lens b n h e =
    ((b.0, dense_at fs (select_field t) o cs lens h e (sel t b.0) n.0), dense_conform limit select_field fs sel ts os cs lens b.1 n.1 h e)
dense_conform limit select_field fs sel (negsuc t ∷ ts) (o ∷ os) cs lens b n h e = absurd b.0

-- in a type that columns have, a legal number selects a field
pub selects : (t : TypeData) (mode : UnionMode) → IsCarried t → form_of t ≡ unions_of mode (ids_by (form_of t)) (fields_by (form_of t)) → Selects (type_limit t) (select (ids_by (form_of t))) (fields_by (form_of t))
selects t mode c e = let w = carried_form t _ e c in λ n h. select_below (ids_by (form_of t)) (count_fields (fields_by (form_of t))) n w.0 w.2 h

-- slots of a type are slots of another of the same form
pub slots_logical : (t u : TypeData) (s : List Slot) → logical_of t ≡ logical_of u → HasSlots u s → HasSlots t s
slots_logical t u s e h =
    all_weaker (IsSlot (logical_of t)) (IsSlot t) (slot-from_logical t) s
    (subst (λ v. AllByRecursion (IsSlot v) s) (sym e) (all_weaker (IsSlot u) (IsSlot (logical_of u)) (slot-to_logical u) s h))

mutual
  pub conforms : (l : Layout) → WellFormed l → HasSlots (type_of l) (denote l)
  conforms (nulls t n) w = slots_form t nulls_of _ w.of_form (all_replicate IsNullSlot n null tt)
  conforms (booleans t m vs) w =
      slots_form t booleans_of _ w.0.of_form (all_masked IsBooleanSlot tt m _ (all_map (λ b. Unit {0}) IsBooleanSlot bool (λ b h. h) vs.bits (all_any _ (λ b. tt) vs.bits)))
  conforms (primitives t m vs) w =
      let p = primitive_by (form_of t) in
      slots_form t (primitives_of p) _ w.0.of_form (all_masked (IsNumberSlot p) tt m _ (all_map (AreInRange (ranges_of p)) (IsNumberSlot p) num (λ z h. h) vs w.1))
  conforms (binaries t m os bs) w =
      let text = text_by (form_of t) in
      slots_form t _ _ w.0.of_form
      (all_masked (IsBinarySlot text) tt m _ (binary_values text (pieces (map nat_of os) bs) (all_pieces (λ b. b < 256) (map nat_of os) bs w.2) w.4))
  conforms (fixed_size_binaries t m k n bs) w =
      slots_form t _ _ w.0.of_form
      (all_masked (IsFixedBinarySlot k) tt m _ (all_map (λ ys. (length ys ≡ k) × AreBytes ys) (IsFixedBinarySlot k) bytes (λ ys h. (h.1, h.0)) (chunks k n bs) (all_chunks (λ b. b < 256) k n bs w.1 w.2)))
  conforms (views t m vs buffers) w =
      let text = text_by (form_of t) in
      slots_form t _ _ w.0.of_form (all_masked (IsViewSlot text) tt m _ (view_values buffers text vs w.2 w.1 w.3))
  conforms (lists t m os l) w =
      slots_form t _ _ w.0.of_form
      (all_masked (IsListSlot (IsSlot (type_of l))) tt m _
      (all_map (AllByRecursion (IsSlot (type_of l))) (IsListSlot (IsSlot (type_of l))) (λ xs. items (slots_of xs)) (list_slot (IsSlot (type_of l))) _
      (all_pieces (IsSlot (type_of l)) (map nat_of os) (denote l) (conforms l w.2))))
  conforms (fixed_size_lists t m k n l) w =
      slots_form t _ _ w.0.of_form
      (all_masked (IsFixedListSlot k (IsSlot (type_of l))) tt m _
      (all_map (λ ys. (length ys ≡ k) × AllByRecursion (IsSlot (type_of l)) ys) (IsFixedListSlot k (IsSlot (type_of l))) (λ xs. items (slots_of xs)) (fixed_slot k (IsSlot (type_of l))) _
      (all_chunks (IsSlot (type_of l)) k n (denote l) (length-denote l w.2 ∙ w.1) (conforms l w.2))))
  conforms (structs t m n ls) w =
      let fs = fields_by (form_of t) in
      slots_form t _ _ w.0.of_form
      (all_masked (IsStructSlot (AreParts fs)) tt m _ (all_map (AreParts fs) (IsStructSlot (AreParts fs)) parts (λ r h. h) (rows n ls) (rows_conform fs n ls w.1 w.2)))
  conforms (sparse_unions t o ts ls) w =
      let fs = fields_by (form_of t) in
      slots_form t _ _ w.0.of_form
      (sparse_conform (type_limit t) (select (ids_by (form_of t))) fs (selects t Sparse w.0.carried w.0.of_form) ts _ w.1 (columns_conform fs o (length ts) ls w.3 w.4))
  conforms (dense_unions t o ts os ls) w =
      let fs = fields_by (form_of t) in
      let all = dense_columns_conform fs ls w.5 w.6 in
      slots_form t _ _ w.0.of_form
      (dense_conform (type_limit t) (select (ids_by (form_of t))) fs (selects t Dense w.0.carried w.0.of_form) ts (map nat_of os) (columns ls) (lengths_of ls) w.1 w.4 all.0 all.1)
  conforms (dictionaries t u m ks l) w =
      let v = value_by (form_of t) in
      slots_form t _ _ w.0.of_form
      (all_masked (IsDictionarySlot (IsSlot v)) tt m _ (key_slots (IsSlot v) ks (denote l) (slots_logical v (type_of l) (denote l) w.4 (conforms l w.5))))

  rows_conform : (fs : FieldList) (n : ℕ) (ls : Layouts) → HaveTypes fs ls → AreWellFormed (λ i. i ≡ n) ls → AllByRecursion (AreParts fs) (rows n ls)
  rows_conform no_fields n no_layouts h w = all_replicate IsNone n no_slots tt
  rows_conform no_fields n (child l ls) h w = absurd h
  rows_conform (and_field f fs) n no_layouts h w = absurd h
  rows_conform (and_field (T.field name t b m) fs) n (child l ls) h w =
      column_parts (IsSlot t) (AreParts fs) (denote l) (rows n ls) (subst (λ u. HasSlots u (denote l)) (sym h.0) (conforms l w.1)) (rows_conform fs n ls h.1 w.2)

  columns_conform : (fs : FieldList) (o n : ℕ) (ls : Layouts) → HaveTypes fs ls → AreWellFormed (λ i. o + n ≤ i) ls → AreColumns fs n (map (drop o) (columns ls))
  columns_conform no_fields o n no_layouts h w = tt
  columns_conform no_fields o n (child l ls) h w = absurd h
  columns_conform (and_field f fs) o n no_layouts h w = absurd h
  columns_conform (and_field f fs) o n (child l ls) h w = (
    all_drop (IsSlot (T.field_type f)) o (denote l) (subst (λ u. HasSlots u (denote l)) (sym h.0) (conforms l w.1)),
    omega (arith, length-drop o (denote l), length-denote l w.1, w.0),
    columns_conform fs o n ls h.1 w.2,
  )

  dense_columns_conform : (fs : FieldList) (ls : Layouts) → HaveTypes fs ls → AreWellFormed (λ i. 0 ≤ i) ls → AreColumns fs 0 (columns ls) × (lengths_of ls ≡ map length (columns ls))
  dense_columns_conform no_fields no_layouts h w = (tt, refl)
  dense_columns_conform no_fields (child l ls) h w = absurd h
  dense_columns_conform (and_field f fs) no_layouts h w = absurd h
  dense_columns_conform (and_field f fs) (child l ls) h w =
      let all = dense_columns_conform fs ls h.1 w.2 in
      ((subst (λ u. HasSlots u (denote l)) (sym h.0) (conforms l w.1), omega arith, all.0), ap₂ (λ n ns. n ∷ ns) (sym (length-denote l w.1)) all.1)
