-- A canonical layout is the one that its slots make.
use Rattle.std.proofs.Common.{Bool, List, None, Option, [], ap, ap₂, arith, cond, drop, false, flat_map, get_or, length, map, nat_eq, pos, pred, refl, replicate, subst, suc, sym, true, zero, ℕ, ℤ, ◌*◌, ◌+◌, ◌^◌, ◌∙◌, ◌∷◌, ◌≡◌, ◌≤◌}
use Rattle.std.proofs.lemmas.Bool.{eqb-true}
use Rattle.std.proofs.lemmas.List.{length-map}
use Rattle.std.specs.List.{AllByRecursion, list_all}
use Rattle.arrow_types.specs.Carried.{IsBelow}
use Rattle.arrow_types.specs.Select.{select, nat_of}
use Rattle.arrow_types.specs.TypeData.{FieldList, TypeData, and_field, no_fields}
use Rattle.arrow_types.specs.Types.{integer_type}
use Rattle.arrow_types.specs.declared.datatype.UnionMode.TheVariants.{Dense, Sparse}
use Rattle.arrow_buffers.specs.Bits.{Bits}
use Rattle.arrow_flat.specs.Slots.{Slot, Slots, is_valid, items, null, slots_of, parts}
use Rattle.arrow_layout.specs.Canon.{canon, canon_chosen, canon_dense, canon_parts, counts_after, dense_offsets, distinct, first_or, inner_or, items_or, key_in, mask_of, number_chosen, numbers, parts_or, after_first}
use Rattle.arrow_layout.specs.Canonical.{AllUnset, AreCanonical, AreCounted, AreSelected, Canonical, FillElsewhere, GrowsFrom, IsFlat, MaskIsNeeded, NoneTwice}
use Rattle.arrow_layout.specs.Denote.{columns, denote, dense_slots, dictionary_slots, first_slot, fixed_list_slots, item_slots, list_slots, masked, masked_by, rows, sparse_slots, with_column}
use Rattle.arrow_flat.specs.Pieces.{chunks, pieces}
use Rattle.arrow_layout.specs.Forms.{dictionaries_of, fields_by, fixed_size_lists_of, form_of, ids_by, key_by, large_by, lists_of, offset_limit, structs_of, unions_of, value_by}
use Rattle.arrow_layout.specs.Layouts.{Layout, Layouts, binaries, booleans, child, dense_unions, dictionaries, fixed_size_binaries, fixed_size_lists, length_of, lengths_of, lists, no_layouts, nulls, primitives, sparse_unions, structs, type_of, views}
use Rattle.arrow_layout.specs.SlotsOf.{fill, fills}
use Rattle.arrow_layout.specs.WellFormed.{AllSet, AreOffsetsWithin, AreWellFormed, HaveTypes, IsColumnOf, WellFormed, mask_bits, positions, type_limit}
use Rattle.arrow_layout.proofs.ByForm.{canon-form, canon_by}
use Rattle.arrow_layout.proofs.Dense.{column_is, dense_numbers}
use Rattle.arrow_layout.proofs.FlatBack.{binaries_back, booleans_back, fixed_binaries_back, nulls_back, numbers_back, views_column_back}
use Rattle.arrow_layout.proofs.Lengths.{length-chunks, length-denote, length-masked, length-pieces, length-rows, offsets_many}
use Rattle.arrow_flat.proofs.Lists.{drop_none, map-map, unpacked-packed}
use Rattle.arrow_layout.proofs.Named.{distinct_back, key_back, valid_key}
use Rattle.arrow_layout.proofs.Unmask.{all_set, chunks_join, flat_map-of_map, joined_back, length-bits, mask_back, masked_bits, offsets_back, pos-to_nat, set_weaker, unmasked}
use Rattle.arrow_types.specs.TypeData as T

lists_back : (t : TypeData) (m : Option Bits) (os : List ℤ) (l : Layout) (inner : List Slot) → length inner ≡ length_of l → l ≡ canon (type_of l) inner
    → IsColumnOf t (lists_of (large_by (form_of t)) (type_of l)) m (pred (length os)) → AreOffsetsWithin (offset_limit (form_of t)) (length_of l) os → MaskIsNeeded m → IsFlat (length_of l) (map nat_of os) (mask_bits m (pred (length os)))
    → lists t m os l ≡ canon t (masked m (list_slots os inner))
lists_back t m os l inner len same w are need flat =
    let f : List Slot → Slot = λ xs. items (slots_of xs) in
    let us = pieces (map nat_of os) inner in
    let n = pred (length os) in
    let s = masked m (item_slots us) in
    let mask : mask_of s ≡ m = mask_back f m n us (length-pieces os inner) w.mask need (all_set (λ x. is_valid (f x) ≡ true) (λ x. refl) (mask_bits m n) us) in
    let offs = offsets_back f (items_or []) unpacked-packed refl m os _ (length_of l) inner len are w.mask flat in
    let join = joined_back f (items_or []) unpacked-packed refl m os _ (length_of l) inner len are w.mask flat in
    let core : lists t m os l ≡ canon_by t (lists_of (large_by (form_of t)) (type_of l)) s = rw (mask, offs, join, ← same) refl in
    core ∙ sym (canon-form t _ s w.of_form)

fixed_back : (t : TypeData) (m : Option Bits) (k n : ℕ) (l : Layout) (inner : List Slot) → length inner ≡ length_of l → l ≡ canon (type_of l) inner
    → IsColumnOf t (fixed_size_lists_of k (type_of l)) m n → length_of l ≡ n * k → MaskIsNeeded m → AllUnset (λ xs. xs ≡ replicate k (fill (type_of l))) (mask_bits m n) (chunks k n inner)
    → fixed_size_lists t m k n l ≡ canon t (masked m (fixed_list_slots k n inner))
fixed_back t m k n l inner len same w many need filled =
    let f : List Slot → Slot = λ xs. items (slots_of xs) in
    let d = replicate k (fill (type_of l)) in
    let us = chunks k n inner in
    let s = masked m (item_slots us) in
    let mask : mask_of s ≡ m = mask_back f m n us (length-chunks k n inner) w.mask need (all_set (λ x. is_valid (f x) ≡ true) (λ x. refl) (mask_bits m n) us) in
    let back : map (items_or d) s ≡ us = unmasked f (items_or d) d refl m n us (length-chunks k n inner) w.mask (all_set (λ x. items_or d (f x) ≡ x) unpacked-packed (mask_bits m n) us) filled in
    let join : flat_map (items_or d) s ≡ inner = flat_map-of_map (items_or d) s ∙ (ap (flat_map (λ ys. ys)) back ∙ chunks_join k n inner (len ∙ many)) in
    let count : length s ≡ n = length-masked m (item_slots us) ∙ (length-map us f ∙ length-chunks k n inner) in
    let core : fixed_size_lists t m k n l ≡ canon_by t (fixed_size_lists_of k (type_of l)) s = rw (mask, count, join, ← same) refl in
    core ∙ sym (canon-form t _ s w.of_form)

structs_back : (t : TypeData) (m : Option Bits) (n : ℕ) (ls : Layouts) → length (rows n ls) ≡ n → ls ≡ canon_parts (fields_by (form_of t)) (rows n ls)
    → IsColumnOf t (structs_of (fields_by (form_of t))) m n → MaskIsNeeded m → AllUnset (λ r. r ≡ fills (fields_by (form_of t))) (mask_bits m n) (rows n ls)
    → structs t m n ls ≡ canon t (masked m (map parts (rows n ls)))
structs_back t m n ls len same w need filled =
    let fs = fields_by (form_of t) in
    let d = fills fs in
    let us = rows n ls in
    let s = masked m (map parts us) in
    let mask : mask_of s ≡ m = mask_back parts m n us len w.mask need (all_set (λ x. is_valid (parts x) ≡ true) (λ x. refl) (mask_bits m n) us) in
    let back : map (parts_or d) s ≡ us = unmasked parts (parts_or d) d refl m n us len w.mask (all_set (λ x. parts_or d (parts x) ≡ x) (λ x. refl) (mask_bits m n) us) filled in
    let count : length s ≡ n = length-masked m (map parts us) ∙ (length-map us parts ∙ len) in
    let core : structs t m n ls ≡ canon_by t (structs_of fs) s = rw (mask, count, back, ← same) refl in
    core ∙ sym (canon-form t _ s w.of_form)

keys_back : (t u : TypeData) (m : Option Bits) (ks : List ℤ) (l : Layout) (inner : List Slot) → length inner ≡ length_of l → l ≡ canon (type_of l) inner
    → IsColumnOf t (dictionaries_of (key_by (form_of t)) (value_by (form_of t))) m (length ks) → u ≡ integer_type (key_by (form_of t)) → AllSet (IsBelow (length_of l)) (mask_bits m (length ks)) ks
    → MaskIsNeeded m → AllUnset (λ k. k ≡ pos 0) (mask_bits m (length ks)) ks → GrowsFrom (length_of l) 0 (map nat_of ks) (mask_bits m (length ks)) → list_all is_valid inner ≡ true → NoneTwice inner
    → value_by (form_of t) ≡ type_of l → dictionaries t u m ks l ≡ canon t (masked m (dictionary_slots ks inner))
keys_back t u m ks l inner len same w key named need unset grows valid once declared =
    let f : ℤ → Slot = λ k. get_or inner (nat_of k) null in
    let n = length ks in
    let bits = mask_bits m n in
    let s = masked m (map f ks) in
    let below : AllSet (IsBelow (length inner)) bits ks = subst (λ i. AllSet (IsBelow i) bits ks) (sym len) named in
    let grow : GrowsFrom (length inner) 0 (map nat_of ks) bits = subst (λ i. GrowsFrom i 0 (map nat_of ks) bits) (sym len) grows in
    let values : distinct s ≡ inner =
    ap distinct (masked_bits m (map f ks) ∙ ap (λ i. masked_by (mask_bits m i) (map f ks)) (length-map ks f)) ∙ distinct_back inner valid once bits ks (length-bits m n w.mask) grow below in
    let mask : mask_of s ≡ m = mask_back f m n ks refl w.mask need (set_weaker (IsBelow (length inner)) (λ k. is_valid (f k) ≡ true) (λ k h. valid_key inner valid once k h) bits ks below) in
    let back : map (key_in inner) s ≡ ks =
    unmasked f (key_in inner) (pos 0) refl m n ks refl w.mask (set_weaker (IsBelow (length inner)) (λ k. key_in inner (f k) ≡ k) (λ k h. key_back inner valid once k h) bits ks below) unset in
    let core : dictionaries t u m ks l ≡ canon_by t (dictionaries_of (key_by (form_of t)) (value_by (form_of t))) s = rw (values, mask, back, key, declared, ← same) refl in
    core ∙ sym (canon-form t _ s w.of_form)

types_back : (select_field : ℕ → ℕ) (ns : List ℕ) (cs : List (List Slot)) → map number_chosen (sparse_slots select_field ns cs) ≡ ns
types_back select_field [] cs = refl
types_back select_field (t ∷ ns) cs = ap (λ ms. t ∷ ms) (types_back select_field ns _)

pub get_dropped : (cs : List (List Slot)) (j : ℕ) → get_or (map (drop 1) cs) j [] ≡ drop 1 (get_or cs j [])
get_dropped [] j = refl
get_dropped (c ∷ cs) zero = refl
get_dropped (c ∷ cs) (suc j) = get_dropped cs j

inner_by : (d x : Slot) (j i : ℕ) (b : Bool) (cs : List (List Slot)) (xs : List Slot) → nat_eq i j ≡ b → get_or cs j [] ≡ x ∷ xs → (nat_eq i j ≡ false → x ≡ d) → cond b (first_slot (get_or cs i [])) d ≡ x
inner_by d x j i true cs xs e h k = rw (eqb-true i j e, h) refl
inner_by d x j i false cs xs e h k = sym (k e)

column_back : (select_field : ℕ → ℕ) (d : Slot) (j : ℕ) (ns : List ℕ) (cs : List (List Slot)) (xs : List Slot) → get_or cs j [] ≡ xs → FillElsewhere d j (map select_field ns) xs
    → map (inner_or select_field d j) (sparse_slots select_field ns cs) ≡ xs
column_back select_field d j [] cs [] e h = refl
column_back select_field d j [] cs (x ∷ xs) e h = absurd h
column_back select_field d j (t ∷ ns) cs [] e h = absurd h
column_back select_field d j (t ∷ ns) cs (x ∷ xs) e h =
    ap₂ (λ y ys. y ∷ ys) (inner_by d x j (select_field t) (nat_eq (select_field t) j) cs xs refl e h.0) (column_back select_field d j ns (map (drop 1) cs) xs (get_dropped cs j ∙ ap (drop 1) e) h.1)

numbers_of : (limit : ℕ) (ts : List ℤ) (s : List Slot) → AllByRecursion (IsBelow limit) ts → map number_chosen s ≡ map nat_of ts → numbers s ≡ ts
numbers_of limit ts s h e = sym (map-map pos number_chosen s) ∙ (ap (map pos) e ∙ pos-to_nat limit ts h)

sparse_back : (t : TypeData) (o : ℕ) (ts : List ℤ) (ls : Layouts) (cols : List (List Slot)) → ls ≡ canon_chosen (select (ids_by (form_of t))) (fields_by (form_of t)) 0 (sparse_slots (select (ids_by (form_of t))) (map nat_of ts) cols)
    → IsColumnOf t (unions_of Sparse (ids_by (form_of t)) (fields_by (form_of t))) None (length ts) → AllByRecursion (IsBelow (type_limit t)) ts → o ≡ 0 → map (drop o) cols ≡ cols
    → sparse_unions t o ts ls ≡ canon t (sparse_slots (select (ids_by (form_of t))) (map nat_of ts) (map (drop o) cols))
sparse_back t o ts ls cols same w legal unshifted whole =
    let select_field = select (ids_by (form_of t)) in
    let s = sparse_slots select_field (map nat_of ts) cols in
    let numbers_are : numbers s ≡ ts = numbers_of (type_limit t) ts s legal (types_back select_field (map nat_of ts) cols) in
    let core : sparse_unions t o ts ls ≡ canon_by t (unions_of Sparse (ids_by (form_of t)) (fields_by (form_of t))) s = rw (numbers_are, ← same, unshifted) refl in
    core ∙ (sym (canon-form t _ s w.of_form) ∙ ap (λ cs. canon t (sparse_slots select_field (map nat_of ts) cs)) (sym whole))

dense_unions_back : (t : TypeData) (o : ℕ) (ts os : List ℤ) (ls : Layouts) (s : List Slot) → s ≡ dense_slots (select (ids_by (form_of t))) (map nat_of ts) (map nat_of os) (columns ls)
    → ls ≡ canon_dense (select (ids_by (form_of t))) (fields_by (form_of t)) 0 s → IsColumnOf t (unions_of Dense (ids_by (form_of t)) (fields_by (form_of t))) None (length ts) → AllByRecursion (IsBelow (type_limit t)) ts
    → o ≡ 0 → AllByRecursion (IsBelow (2 ^ 31)) os → length (map nat_of os) ≡ length (map nat_of ts) → map nat_of os ≡ counts_after [] (positions t ts) → dense_unions t o ts os ls ≡ canon t s
dense_unions_back t o ts os ls s are same w legal unshifted in_range len counted =
    let select_field = select (ids_by (form_of t)) in
    let ns : map number_chosen s ≡ map nat_of ts = ap (map number_chosen) are ∙ dense_numbers select_field (map nat_of ts) (map nat_of os) (columns ls) len in
    let numbers_are : numbers s ≡ ts = numbers_of (type_limit t) ts s legal ns in
    let offsets_are : dense_offsets select_field s ≡ os = ap (λ us. map pos (counts_after [] (map select_field us))) ns ∙ (ap (map pos) (sym counted) ∙ pos-to_nat (2 ^ 31) os in_range) in
    let core : dense_unions t o ts os ls ≡ canon_by t (unions_of Dense (ids_by (form_of t)) (fields_by (form_of t))) s = rw (numbers_are, offsets_are, ← same, unshifted) refl in
    core ∙ sym (canon-form t _ s w.of_form)

first_columns : (y : Slot) (xs : List Slot) (rs : List Slots) → length xs ≡ length rs → map (first_or y) (with_column xs rs) ≡ xs
first_columns y [] [] e = refl
first_columns y [] (r ∷ rs) e = refl
first_columns y (x ∷ xs) [] e = absurd (omega arith)
first_columns y (x ∷ xs) (r ∷ rs) e = ap (λ ys. x ∷ ys) (first_columns y xs rs (omega arith))

rest_columns : (xs : List Slot) (rs : List Slots) → length xs ≡ length rs → map after_first (with_column xs rs) ≡ rs
rest_columns [] [] e = refl
rest_columns [] (r ∷ rs) e = absurd (omega arith)
rest_columns (x ∷ xs) [] e = refl
rest_columns (x ∷ xs) (r ∷ rs) e = ap (λ qs. r ∷ qs) (rest_columns xs rs (omega arith))

pub zero_on : (cs : List (List Slot)) (i : ℕ) → get_or cs (0 + i) [] ≡ get_or cs i []
zero_on cs i = let e : 0 + i ≡ i = omega arith in ap (λ k. get_or cs k []) e

-- a child that is canonical, under the type that its field has
child_back : (t : TypeData) (l : Layout) (s : List Slot) → t ≡ type_of l → s ≡ denote l → l ≡ canon (type_of l) (denote l) → l ≡ canon t s
child_back t l s e f h = h ∙ ap₂ canon (sym e) (sym f)

mutual
  pub canonical_back : (l : Layout) → WellFormed l → Canonical l → l ≡ canon (type_of l) (denote l)
  canonical_back (nulls t n) w c = nulls_back t n w
  canonical_back (booleans t m vs) w c = booleans_back t m vs w.0 c.0 c.1 c.2
  canonical_back (primitives t m vs) w c = numbers_back t m vs w.0 c.0 c.1
  canonical_back (binaries t m os bs) w c = binaries_back t m os bs w.0 w.1 c.0 c.1
  canonical_back (fixed_size_binaries t m k n bs) w c = fixed_binaries_back t m k n bs w.0 w.1 c.0 c.1
  canonical_back (views t m vs buffers) w c = views_column_back t m vs buffers w.0 w.1 c.0 c.1 c.2
  canonical_back (lists t m os l) w c = lists_back t m os l (denote l) (length-denote l w.2) (canonical_back l w.2 c.2) w.0 w.1 c.0 c.1
  canonical_back (fixed_size_lists t m k n l) w c = fixed_back t m k n l (denote l) (length-denote l w.2) (canonical_back l w.2 c.2) w.0 w.1 c.0 c.1
  canonical_back (structs t m n ls) w c = structs_back t m n ls (length-rows n ls w.2) (parts_back (fields_by (form_of t)) n ls w.1 w.2 c.2) w.0 c.0 c.1
  canonical_back (sparse_unions t o ts ls) w c =
      let whole : map (drop o) (columns ls) ≡ columns ls = rw c.0 (drop_none (columns ls)) in
      sparse_back t o ts ls (columns ls) (chosen_back (select (ids_by (form_of t))) (fields_by (form_of t)) (o + length ts) ls 0 (map nat_of ts) (columns ls) (zero_on (columns ls)) w.3 w.4 c.1) w.0 w.1 c.0 whole
  canonical_back (dense_unions t o ts os ls) w c =
      let select_field = select (ids_by (form_of t)) in
      let at : dense_slots select_field (map nat_of ts) (map nat_of os) (columns ls) ≡ dense_slots select_field (map nat_of ts) (counts_after [] (positions t ts)) (columns ls) =
      ap (λ us. dense_slots select_field (map nat_of ts) us (columns ls)) c.0 in
      dense_unions_back t o ts os ls _ refl (rw at (dense_back select_field (fields_by (form_of t)) ls 0 (map nat_of ts) (columns ls) (zero_on (columns ls)) w.5 w.6 c.1)) w.0 w.1 w.2 w.3
      (offsets_many t ts os (lengths_of ls) w.4) c.0
  canonical_back (dictionaries t u m ks l) w c =
      keys_back t u m ks l (denote l) (length-denote l w.5) (canonical_back l w.5 c.6) w.0 w.1 w.3 c.0 c.1 c.2 c.3 c.4 c.5

  parts_back : (fs : FieldList) (n : ℕ) (ls : Layouts) → HaveTypes fs ls → AreWellFormed (λ i. i ≡ n) ls → AreCanonical ls → ls ≡ canon_parts fs (rows n ls)
  parts_back no_fields n no_layouts h w c = refl
  parts_back no_fields n (child l ls) h w c = absurd h
  parts_back (and_field f fs) n no_layouts h w c = absurd h
  parts_back (and_field (T.field name t b m) fs) n (child l ls) h w c =
      let e : length (denote l) ≡ length (rows n ls) = length-denote l w.1 ∙ (w.0 ∙ sym (length-rows n ls w.2)) in
      ap₂ child (child_back t l _ h.0 (first_columns (fill t) (denote l) (rows n ls) e) (canonical_back l w.1 c.0))
      (parts_back fs n ls h.1 w.2 c.1 ∙ ap (canon_parts fs) (sym (rest_columns (denote l) (rows n ls) e)))

  chosen_back : (select_field : ℕ → ℕ) (fs : FieldList) (n : ℕ) (ls : Layouts) (j : ℕ) (ns : List ℕ) (cols : List (List Slot)) → ((i : ℕ) → get_or cols (j + i) [] ≡ get_or (columns ls) i []) → HaveTypes fs ls
      → AreWellFormed (λ i. n ≤ i) ls → AreSelected j (map select_field ns) ls → ls ≡ canon_chosen select_field fs j (sparse_slots select_field ns cols)
  chosen_back select_field no_fields n no_layouts j ns cols at h w c = refl
  chosen_back select_field no_fields n (child l ls) j ns cols at h w c = absurd h
  chosen_back select_field (and_field f fs) n no_layouts j ns cols at h w c = absurd h
  chosen_back select_field (and_field (T.field name t b m) fs) n (child l ls) j ns cols at h w c =
      let here : get_or cols j [] ≡ denote l = ap (λ i. get_or cols i []) (omega arith) ∙ at 0 in
      let filled : FillElsewhere (fill t) j (map select_field ns) (denote l) = subst (λ u. FillElsewhere (fill u) j (map select_field ns) (denote l)) (sym h.0) c.0 in
      ap₂ child (child_back t l _ h.0 (column_back select_field (fill t) j ns cols (denote l) here filled) (canonical_back l w.1 c.1))
      (chosen_back select_field fs n ls (suc j) ns cols (λ i. ap (λ k. get_or cols k []) (omega arith) ∙ at (suc i)) h.1 w.2 c.2)

  dense_back : (select_field : ℕ → ℕ) (fs : FieldList) (ls : Layouts) (j : ℕ) (ns : List ℕ) (cols : List (List Slot)) → ((i : ℕ) → get_or cols (j + i) [] ≡ get_or (columns ls) i []) → HaveTypes fs ls
      → AreWellFormed (λ i. 0 ≤ i) ls → AreCounted j (map select_field ns) ls → ls ≡ canon_dense select_field fs j (dense_slots select_field ns (counts_after [] (map select_field ns)) cols)
  dense_back select_field no_fields no_layouts j ns cols at h w c = refl
  dense_back select_field no_fields (child l ls) j ns cols at h w c = absurd h
  dense_back select_field (and_field f fs) no_layouts j ns cols at h w c = absurd h
  dense_back select_field (and_field (T.field name t b m) fs) (child l ls) j ns cols at h w c =
      let here : get_or cols j [] ≡ denote l = ap (λ i. get_or cols i []) (omega arith) ∙ at 0 in
      ap₂ child (child_back t l _ h.0 (column_is select_field j ns cols (denote l) here (length-denote l w.1 ∙ c.0)) (canonical_back l w.1 c.1))
      (dense_back select_field fs ls (suc j) ns cols (λ i. ap (λ k. get_or cols k []) (omega arith) ∙ at (suc i)) h.1 w.2 c.2)
