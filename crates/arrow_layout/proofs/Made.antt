-- The canonical layout is canonical.
use Rattle.std.proofs.Common.{Bool, List, None, Some, [], ap, append-nil, append_assoc, arith, cond, false, flat_map, length, length-append, map, max, nat_eq, pos, refl, replicate, subst, suc, sym, true, ℕ, ⊎_elim, ◌++◌, ◌+◌, ◌<◌, ◌∙◌, ◌∷◌, ◌≡◌}
use Rattle.std.proofs.lemmas.Bool.{and_from, false≢true, or_cases, or_from, or_parts, true≢false}
use Rattle.std.proofs.lemmas.List.{length-map}
use Rattle.std.specs.List.{AllByRecursion, list_all}
use Rattle.arrow_types.specs.Carried.{AreCarried, IsCarried, count_fields}
use Rattle.arrow_types.specs.Select.{number_limit, select, nat_of}
use Rattle.arrow_types.specs.TypeData.{FieldList, TypeData, and_field, no_fields}
use Rattle.arrow_types.specs.Types.{integer_type}
use Rattle.arrow_types.specs.declared.datatype.UnionMode.TheVariants.{Dense, Sparse}
use Rattle.arrow_buffers.specs.Bits.{plain}
use Rattle.arrow_flat.specs.Numbers.{zeros}
use Rattle.arrow_flat.specs.Packs.{packed_views, view_after, view_limit, views_after}
use Rattle.arrow_flat.specs.Slots.{Slot, Slots, bool, bytes, chosen, is_valid, items, null, num, parts, slot_eq}
use Rattle.arrow_flat.specs.Views.{zero_view}
use Rattle.arrow_layout.specs.Canon.{boolean_of, bytes_or, canon, canon_chosen, canon_dense, canon_parts, counts_after, distinct, distinct_after, sums_from, first_or, first_place, flat_canon, inner_if, inner_or, is_among, items_or, key_canon, key_in, list_canon, mask_of, number_chosen, numbers_or, offsets, parts_or, after_first, seen_with}
use Rattle.arrow_layout.specs.Canonical.{AllUnset, AreCanonical, AreCounted, AreSelected, Canonical, FillElsewhere, FlatFrom, GrowsFrom, IsFlat, MaskIsNeeded, NoneTwice}
use Rattle.arrow_layout.specs.Denote.{denote}
use Rattle.arrow_layout.specs.Forms.{Form, binaries_of, booleans_of, fixed_size_binaries_of, form_of, nulls_of, primitive_by, primitives_of, value_by, views_of}
use Rattle.arrow_layout.specs.Layouts.{Layout, length_of, type_of}
use Rattle.arrow_layout.specs.SlotsOf.{AreParts, HasSlots, IsFlatSlot, IsSlot, fill, fills}
use Rattle.arrow_layout.specs.WellFormed.{mask_bits}
use Rattle.arrow_layout.proofs.ByForm.{type-canon}
use Rattle.arrow_layout.proofs.CanonForms.{are_union, bits-mask, place_below}
use Rattle.arrow_layout.proofs.CanonLengths.{length-canon, length-offsets}
use Rattle.arrow_layout.proofs.Denotes.{denote_canon, dictionary_value, first_of_more, fixed_items, fixed_length, list_items, of_fields, rest_of_more, rows_canon, struct_parts, to_nat-numbers}
use Rattle.arrow_layout.proofs.Dense.{IsUnion, count_inner, places}
use Rattle.arrow_layout.proofs.Distinct.{IsIn, all_distinct}
use Rattle.arrow_layout.proofs.Fills.{fill_is_slot, fills_are_parts}
use Rattle.arrow_layout.proofs.FlatDenotes.{fixed_binary_length, views_fit}
use Rattle.arrow_flat.proofs.Lists.{all_any, all_flat_map, all_map, all_weaker, map-map}
use Rattle.arrow_layout.proofs.Named.{eq_sym}
use Rattle.arrow_flat.proofs.PackedViews.{length-views}
use Rattle.arrow_layout.proofs.Pieces.{chunks_joined, to_nat-pos}
use Rattle.arrow_layout.proofs.Retyped.{canonical_under}
use Rattle.arrow_layout.proofs.SlotSame.{slot_itself}
use Rattle.arrow_layout.proofs.Unions.{IsFrom, dense_inner, from_next, from_start, inner_has}
use Rattle.arrow_layout.proofs.Unmask.{all_bits}
use Rattle.arrow_layout.proofs.ViewsBack.{packed_in_order}
use Rattle.arrow_types.specs.TypeData as T

pub null_from_invalid : (x : Slot) → is_valid x ≡ false → x ≡ null
null_from_invalid null e = refl
null_from_invalid (bool b) e = absurd (true≢false e)
null_from_invalid (num z) e = absurd (true≢false e)
null_from_invalid (bytes bs) e = absurd (true≢false e)
null_from_invalid (items xs) e = absurd (true≢false e)
null_from_invalid (parts xs) e = absurd (true≢false e)
null_from_invalid (chosen t x) e = absurd (true≢false e)

needed_by : (s : List Slot) (b : Bool) → list_all is_valid s ≡ b → MaskIsNeeded (cond b None (Some (plain (map is_valid s))))
needed_by s true e = tt
needed_by s false e = (refl, sym (all_bits s) ∙ e)

mask_needed : (s : List Slot) → MaskIsNeeded (mask_of s)
mask_needed s = needed_by s (list_all is_valid s) refl

unset_by : {A : Type 0} (P : A → Type 0) (v : Bool) (bits : List Bool) (y : A) (ys : List A) → (v ≡ false → P y) → AllUnset P bits ys → AllUnset P (v ∷ bits) (y ∷ ys)
unset_by P true bits y ys f h = h
unset_by P false bits y ys f h = (f refl, h)

unset_map : {A : Type 0} (P : A → Type 0) (g : Slot → A) → P (g null) → (s : List Slot) → AllUnset P (map is_valid s) (map g s)
unset_map P g n [] = tt
unset_map P g n (x ∷ s) = unset_by P (is_valid x) (map is_valid s) (g x) (map g s) (λ e. subst (λ y. P (g y)) (sym (null_from_invalid x e)) n) (unset_map P g n s)

-- what stands under the nulls of the canonical values
unset_mask : {A : Type 0} (P : A → Type 0) (g : Slot → A) (n : ℕ) → P (g null) → (s : List Slot) → length s ≡ n → AllUnset P (mask_bits (mask_of s) n) (map g s)
unset_mask P g n z s e = rw (bits-mask s n e) (unset_map P g z s)

flat_by : (top a b : ℕ) (os : List ℕ) (v : Bool) (bits : List Bool) → (v ≡ false → b ≡ a) → FlatFrom top b os bits → FlatFrom top a (b ∷ os) (v ∷ bits)
flat_by top a b os true bits f h = h
flat_by top a b os false bits f h = (f refl, h)

flat_ends : {A : Type 0} (g : Slot → List A) → g null ≡ [] → (s : List Slot) (a top : ℕ) → a + length (flat_map g s) ≡ top → FlatFrom top a (sums_from a (map (λ x. length (g x)) s)) (map is_valid s)
flat_ends g z [] a top e = sym (omega arith) ∙ e
flat_ends g z (x ∷ s) a top e =
    flat_by top a (a + length (g x)) (sums_from (a + length (g x)) (map (λ y. length (g y)) s)) (is_valid x) (map is_valid s)
    (λ i. let none : length (g x) ≡ 0 = ap (λ y. length (g y)) (null_from_invalid x i) ∙ ap length z in omega arith)
    (flat_ends g z s (a + length (g x)) top (omega (arith, length-append (g x) (flat_map g s))))

flat_offsets : {A : Type 0} (g : Slot → List A) → g null ≡ [] → (s : List Slot) (n top : ℕ) → length s ≡ n → length (flat_map g s) ≡ top
    → IsFlat top (map nat_of (offsets (map (λ x. length (g x)) s))) (mask_bits (mask_of s) n)
flat_offsets g z s n top l e =
    rw (bits-mask s n l, to_nat-pos (sums_from 0 (map (λ x. length (g x)) s))) (refl, flat_ends g z s 0 top (omega arith))

-- the distinct slots go on from those that were seen
with_more : (seen : List Slot) (x : Slot) (v b : Bool) → (more : List Slot) × (cond v (cond b seen (seen ++ x ∷ [])) seen ≡ seen ++ more)
with_more seen x true true = ([], sym (append-nil seen))
with_more seen x true false = (x ∷ [], refl)
with_more seen x false b = ([], sym (append-nil seen))

goes_on : (seen s : List Slot) → (more : List Slot) × (distinct_after seen s ≡ seen ++ more)
goes_on seen [] = ([], sym (append-nil seen))
goes_on seen (x ∷ s) =
    let one = with_more seen x (is_valid x) (is_among x seen) in
    let all = goes_on (seen_with seen x) s in
    (one.0 ++ all.0, all.1 ∙ (ap (λ ys. ys ++ all.0) one.1 ∙ append_assoc seen one.0 all.0))

place_cons : (x y : Slot) (b : Bool) (ys zs : List Slot) → (b ≡ false → first_place x ys ≡ first_place x zs) → cond b 0 (suc (first_place x ys)) ≡ cond b 0 (suc (first_place x zs))
place_cons x y true ys zs h = refl
place_cons x y false ys zs h = ap suc (h refl)

among_rest : (x y : Slot) (ys : List Slot) → IsIn (y ∷ ys) x → slot_eq x y ≡ false → IsIn ys x
among_rest x y ys h e = ⊎_elim (λ t. absurd (false≢true (sym e ∙ t))) (λ t. t) (or_cases _ _ h)

place_front : (x : Slot) (xs more : List Slot) → IsIn xs x → first_place x (xs ++ more) ≡ first_place x xs
place_front x [] more h = absurd (false≢true h)
place_front x (y ∷ xs) more h = place_cons x y (slot_eq x y) (xs ++ more) xs (λ e. place_front x xs more (among_rest x y xs h e))

place_new : (x : Slot) (xs more : List Slot) → is_among x xs ≡ false → first_place x (xs ++ x ∷ more) ≡ length xs
place_new x [] more h = rw (slot_itself x) refl
place_new x (y ∷ xs) more h = let both = or_parts (slot_eq x y) (is_among x xs) h in rw both.0 (ap suc (place_new x xs more both.1))

grow_by : (seen s : List Slot) (x : Slot) (v b : Bool) (ks : List ℕ) (bits : List Bool) (d : List Slot)
    → is_among x seen ≡ b → (more : List Slot) → d ≡ cond v (cond b seen (seen ++ x ∷ [])) seen ++ more
    → GrowsFrom (length d) (length (cond v (cond b seen (seen ++ x ∷ [])) seen)) ks bits
    → GrowsFrom (length d) (length seen) (nat_of (cond v (pos (first_place x d)) (pos 0)) ∷ ks) (v ∷ bits)
grow_by seen s x true true ks bits d e more all h =
    let here : first_place x d ≡ first_place x seen = ap (first_place x) all ∙ place_front x seen more e in
    let low : first_place x seen < length seen = place_below x seen e in
    let top : max (length seen) (suc (first_place x d)) ≡ length seen = omega arith in
    (omega arith, subst (λ n. GrowsFrom (length d) n ks bits) (sym top) h)
grow_by seen s x true false ks bits d e more all h =
    let here : first_place x d ≡ length seen = ap (first_place x) (all ∙ append_assoc seen (x ∷ []) more) ∙ place_new x seen more e in
    let top : max (length seen) (suc (first_place x d)) ≡ length (seen ++ x ∷ []) = omega (arith, length-append seen (x ∷ []), here) in
    (omega arith, subst (λ n. GrowsFrom (length d) n ks bits) (sym top) h)
grow_by seen s x false b ks bits d e more all h = h

keys_grow : (seen s d : List Slot) → d ≡ distinct_after seen s → GrowsFrom (length d) (length seen) (map (λ x. nat_of (key_in d x)) s) (map is_valid s)
keys_grow seen [] d e = sym (ap length e)
keys_grow seen (x ∷ s) d e =
    let all = goes_on (seen_with seen x) s in
    grow_by seen s x (is_valid x) (is_among x seen) (map (λ y. nat_of (key_in d y)) s) (map is_valid s) d refl all.0 (e ∙ all.1) (keys_grow (seen_with seen x) s d e)

none_twice_end : (seen : List Slot) (x : Slot) → NoneTwice seen → is_among x seen ≡ false → NoneTwice (seen ++ x ∷ [])
none_twice_end [] x h e = (refl, tt)
none_twice_end (y ∷ seen) x h e =
    let both = or_parts (slot_eq x y) (is_among x seen) e in
    (among_both y seen x h.0 (eq_sym x y false both.0), none_twice_end seen x h.1 both.1) where
      among_both : (y : Slot) (xs : List Slot) (x : Slot) → is_among y xs ≡ false → slot_eq y x ≡ false → is_among y (xs ++ x ∷ []) ≡ false
      among_both y [] x h e = or_from _ _ e refl
      among_both y (z ∷ xs) x h e = let both = or_parts (slot_eq y z) (is_among y xs) h in or_from _ _ both.0 (among_both y xs x both.1 e)

none_twice_by : (seen : List Slot) (x : Slot) (v b : Bool) → is_among x seen ≡ b → NoneTwice seen → NoneTwice (cond v (cond b seen (seen ++ x ∷ [])) seen)
none_twice_by seen x true true e h = h
none_twice_by seen x true false e h = none_twice_end seen x h e
none_twice_by seen x false b e h = h

pub none_twice : (seen s : List Slot) → NoneTwice seen → NoneTwice (distinct_after seen s)
none_twice seen [] h = h
none_twice seen (x ∷ s) h = none_twice (seen_with seen x) s (none_twice_by seen x (is_valid x) (is_among x seen) refl h)

list_all_from : (s : List Slot) → AllByRecursion (λ x. is_valid x ≡ true) s → list_all is_valid s ≡ true
list_all_from [] h = refl
list_all_from (x ∷ s) h = and_from _ _ h.0 (list_all_from s h.1)

elsewhere_by : (d y : Slot) (b : Bool) → b ≡ false → cond b y d ≡ d
elsewhere_by d y true e = absurd (true≢false e)
elsewhere_by d y false e = refl

elsewhere : (select_field : ℕ → ℕ) (d : Slot) (j : ℕ) (x : Slot) → nat_eq (select_field (number_chosen x)) j ≡ false → inner_or select_field d j x ≡ d
elsewhere select_field d j (chosen t y) e = elsewhere_by d y (nat_eq (select_field t) j) e
elsewhere select_field d j _ e = refl

fill_elsewhere : (select_field : ℕ → ℕ) (d : Slot) (j : ℕ) (s : List Slot) → FillElsewhere d j (map select_field (map number_chosen s)) (map (inner_or select_field d j) s)
fill_elsewhere select_field d j [] = tt
fill_elsewhere select_field d j (x ∷ s) = (elsewhere select_field d j x, fill_elsewhere select_field d j s)

-- a null has the view of zero bytes
views_unset : (s : List Slot) (b e : ℕ) → AllUnset (λ v. v ≡ zero_view) (map is_valid s) (views_after view_limit b e (map (bytes_or []) s))
views_unset [] b e = tt
views_unset (x ∷ s) b e =
    unset_by (λ v. v ≡ zero_view) (is_valid x) (map is_valid s) _ _ (λ i. ap (λ y. view_after view_limit b e (bytes_or [] y)) (null_from_invalid x i)) (views_unset s _ _)

-- ---- each kind

keys_made : (t u : TypeData) (k : TypeData) (s : List Slot) → value_by (form_of t) ≡ u → denote (canon u (distinct s)) ≡ distinct s → Canonical (canon u (distinct s)) → Canonical (key_canon t k s (canon u (distinct s)))
keys_made t u k s declared e c =
    let d = distinct s in
    let n = length (map (key_in d) s) in
    let l : length s ≡ n = sym (length-map s (key_in d)) in (
      mask_needed s,
      unset_mask (λ z. z ≡ pos 0) (key_in d) n refl s l,
      rw (length-canon u d, bits-mask s n l, map-map nat_of (key_in d) s) (keys_grow [] s d refl),
      rw e (list_all_from d (all_distinct (λ x. is_valid x ≡ true) [] s tt (all_any _ (λ x v. v) s))),
      rw e (none_twice [] s tt),
      declared ∙ sym (type-canon u d),
      c,
    )

flat_made : (t : TypeData) (f : Form) (s : List Slot) → form_of t ≡ f → AllByRecursion (IsFlatSlot f) s → Canonical (flat_canon t f s)
flat_made t nulls_of s e h = tt
flat_made t booleans_of s e h = (mask_needed s, refl, unset_mask (λ b. b ≡ false) boolean_of _ refl s (sym (length-map s boolean_of)))
flat_made t (primitives_of p) s e h = (
  mask_needed s,
  unset_mask (λ v. v ≡ zeros (primitive_by (form_of t))) (numbers_or (zeros p)) _ (ap (λ g. zeros (primitive_by g)) (sym e)) s (sym (length-map s (numbers_or (zeros p)))),
)
flat_made t (binaries_of large text) s e h = (mask_needed s, flat_offsets (bytes_or []) refl s _ _ (sym (length-offsets (bytes_or []) s)) refl)
flat_made t (fixed_size_binaries_of k) s e h =
    let d : List ℕ = replicate k 0 in (
      mask_needed s,
      rw (chunks_joined k (bytes_or d) s (all_weaker _ _ (fixed_binary_length k) s h)) (unset_mask (λ v. v ≡ d) (bytes_or d) (length s) refl s refl),
    )
flat_made t (views_of text) s e h =
    let vs = map (bytes_or []) s in
    let n = length (packed_views view_limit vs) in
    let l : length s ≡ n = sym (length-views view_limit vs 0 0 ∙ length-map s (bytes_or [])) in (
      mask_needed s,
      rw (bits-mask s n l) (views_unset s 0 0),
      packed_in_order view_limit vs (views_fit text s h),
    )
flat_made t _ s e h = tt

lists_made : (t : TypeData) (s : List Slot) (l : Layout) (inner : List Slot) → length_of l ≡ length (flat_map (items_or []) s) → Canonical l → Canonical (list_canon t s l)
lists_made t s l inner e c = (mask_needed s, flat_offsets (items_or []) refl s _ _ (sym (length-offsets (items_or []) s)) (sym e), c)

mutual
  pub canon_canonical : (t : TypeData) (s : List Slot) → IsCarried t → HasSlots t s → Canonical (canon t s)
  canon_canonical (T.list (T.field n t b m)) s c h =
      lists_made (T.list (T.field n t b m)) s _ (flat_map (items_or []) s) (length-canon t _) (canon_canonical t (flat_map (items_or []) s) c (all_flat_map _ _ _ (list_items (IsSlot t)) s h))
  canon_canonical (T.large_list (T.field n t b m)) s c h =
      lists_made (T.large_list (T.field n t b m)) s _ (flat_map (items_or []) s) (length-canon t _) (canon_canonical t (flat_map (items_or []) s) c (all_flat_map _ _ _ (list_items (IsSlot t)) s h))
  canon_canonical (T.map (T.field n t b m) o) s c h =
      lists_made (T.map (T.field n t b m) o) s _ (flat_map (items_or []) s) (length-canon t _) (canon_canonical t (flat_map (items_or []) s) c.1 (all_flat_map _ _ _ (list_items (IsSlot t)) s h))
  canon_canonical (T.fixed_size_list (T.field n t b m) k) s c h =
      let d = replicate k (fill t) in
      let has : HasSlots t (flat_map (items_or d) s) = all_flat_map _ _ _ (fixed_items k (IsSlot t) (fill t) (fill_is_slot t c.1)) s h in (
        mask_needed s,
        rw (denote_canon t (flat_map (items_or d) s) c.1 has, chunks_joined k (items_or d) s (all_weaker _ _ (fixed_length k (IsSlot t) (fill t)) s h))
            (unset_mask (λ xs. xs ≡ replicate k (fill (type_of (canon t (flat_map (items_or d) s))))) (items_or d) (length s) (ap (λ u. replicate k (fill u)) (sym (type-canon t _))) s refl),
        canon_canonical t (flat_map (items_or d) s) c.1 has,
      )
  canon_canonical (T.struct fs) s c h =
      let d = fills fs in
      let rs = map (parts_or d) s in
      let has : AllByRecursion (AreParts fs) rs = all_map _ _ _ (struct_parts (AreParts fs) d (fills_are_parts fs c)) s h in (
        mask_needed s,
        rw (rows_canon fs (length s) rs (length-map s (parts_or d)) c has) (unset_mask (λ r. r ≡ d) (parts_or d) (length s) refl s refl),
        parts_canonical fs rs c has,
      )
  canon_canonical (T.union fs ids Sparse) s c h =
      let of = of_fields (number_limit ids (count_fields fs)) (select ids) fs s h in
      (refl, rw (to_nat-numbers s) (chosen_canonical (select ids) fs 0 s c.3 (all_weaker _ _ (from_start (select ids) fs) s of)))
  canon_canonical (T.union fs ids Dense) s c h =
      let of = of_fields (number_limit ids (count_fields fs)) (select ids) fs s h in (
        rw (to_nat-numbers s, to_nat-pos (counts_after [] (places (select ids) s))) refl,
        rw (to_nat-numbers s) (dense_canonical (select ids) fs 0 s c.3 (all_weaker _ _ (from_start (select ids) fs) s of) (are_union _ s of)),
      )
  canon_canonical (T.dictionary k t o) s c h =
      let has : HasSlots t (distinct s) = all_distinct (IsSlot t) [] s tt (all_weaker _ _ (dictionary_value (IsSlot t)) s h) in
      keys_made (T.dictionary k t o) t (integer_type k) s refl (denote_canon t (distinct s) c has) (canon_canonical t (distinct s) c has)
  canon_canonical (T.extension n t m) s c h = canonical_under (T.extension n t m) (canon t s) (ap form_of (sym (type-canon t s))) (canon_canonical t s c h)
  canon_canonical t s c h = flat_made t (form_of t) s refl h

  parts_canonical : (fs : FieldList) (rs : List Slots) → AreCarried fs → AllByRecursion (AreParts fs) rs → AreCanonical (canon_parts fs rs)
  parts_canonical no_fields rs c h = tt
  parts_canonical (and_field (T.field n t b m) fs) rs c h = (
    canon_canonical t (map (first_or (fill t)) rs) c.0 (all_map _ _ _ (first_of_more (fill t) (IsSlot t) (AreParts fs)) rs h),
    parts_canonical fs (map after_first rs) c.1 (all_map _ _ _ (rest_of_more (IsSlot t) (AreParts fs)) rs h),
  )

  chosen_canonical : (select_field : ℕ → ℕ) (fs : FieldList) (j : ℕ) (s : List Slot) → AreCarried fs → AllByRecursion (IsFrom select_field fs j) s
      → AreSelected j (map select_field (map number_chosen s)) (canon_chosen select_field fs j s)
  chosen_canonical select_field no_fields j s c h = tt
  chosen_canonical select_field (and_field (T.field n t b m) fs) j s c h =
      let has : HasSlots t (map (inner_or select_field (fill t) j) s) = all_map _ _ _ (inner_has select_field n t b m fs j (fill_is_slot t c.0)) s h in (
        rw (denote_canon t (map (inner_or select_field (fill t) j) s) c.0 has, type-canon t (map (inner_or select_field (fill t) j) s)) (fill_elsewhere select_field (fill t) j s),
        canon_canonical t (map (inner_or select_field (fill t) j) s) c.0 has,
        chosen_canonical select_field fs (suc j) s c.1 (all_weaker _ _ (from_next select_field n t b m fs j) s h),
      )

  dense_canonical : (select_field : ℕ → ℕ) (fs : FieldList) (j : ℕ) (s : List Slot) → AreCarried fs → AllByRecursion (IsFrom select_field fs j) s → AllByRecursion IsUnion s
      → AreCounted j (map select_field (map number_chosen s)) (canon_dense select_field fs j s)
  dense_canonical select_field no_fields j s c h u = tt
  dense_canonical select_field (and_field (T.field n t b m) fs) j s c h u = (
    length-canon t (flat_map (inner_if select_field j) s) ∙ sym (count_inner select_field j s u),
    canon_canonical t (flat_map (inner_if select_field j) s) c.0 (all_flat_map _ _ _ (dense_inner select_field n t b m fs j) s h),
    dense_canonical select_field fs (suc j) s c.1 (all_weaker _ _ (from_next select_field n t b m fs j) s h) u,
  )
