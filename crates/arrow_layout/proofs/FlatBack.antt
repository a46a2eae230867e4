-- A canonical layout without children is the one that its slots make.
use Rattle.std.proofs.Common.{Bool, List, None, Option, [], ap, arith, false, flat_map, length, map, pred, refl, replicate, sym, true, ℕ, ℤ, ◌*◌, ◌∙◌, ◌∷◌, ◌≡◌}
use Rattle.std.proofs.lemmas.List.{length-map, length-replicate}
use Rattle.std.specs.List.{AllByRecursion}
use Rattle.arrow_types.specs.Select.{nat_of}
use Rattle.arrow_types.specs.TypeData.{TypeData}
use Rattle.arrow_buffers.specs.Bits.{Bits, plain}
use Rattle.arrow_flat.specs.Numbers.{zeros}
use Rattle.arrow_flat.specs.Packs.{AreInOrder, pack, packed_views, view_limit}
use Rattle.arrow_flat.specs.Slots.{Slot, bool, bytes, is_valid, null, num}
use Rattle.arrow_flat.specs.Views.{IsView, View, longs, view_bytes, zero_view}
use Rattle.arrow_layout.specs.Canon.{boolean_of, bytes_or, canon, mask_of, numbers_or}
use Rattle.arrow_layout.specs.Canonical.{AllUnset, IsFlat, MaskIsNeeded}
use Rattle.arrow_layout.specs.Denote.{binary_slots, fixed_binary_slots, masked, view_slots}
use Rattle.arrow_flat.specs.Pieces.{chunks, pieces}
use Rattle.arrow_layout.specs.Forms.{binaries_of, booleans_of, fixed_size_binaries_of, form_of, large_by, nulls_of, offset_limit, primitive_by, primitives_of, text_by, views_of}
use Rattle.arrow_layout.specs.Layouts.{binaries, booleans, fixed_size_binaries, nulls, primitives, views}
use Rattle.arrow_layout.specs.WellFormed.{AreOffsetsWithin, IsColumnOf, mask_bits}
use Rattle.arrow_layout.proofs.ByForm.{canon-form, canon_by}
use Rattle.arrow_layout.proofs.Lengths.{length-chunks, length-masked, length-pieces}
use Rattle.arrow_layout.proofs.Unmask.{all_set, chunks_join, flat_map-of_map, joined_back, mask_back, offsets_back, unmasked}
use Rattle.arrow_layout.proofs.ViewsBack.{buffers_back, views_back}

unset_weaker : {A B : Type 0} (P : A → Type 0) (Q : B → Type 0) (g : A → B) → ((x : A) → P x → Q (g x)) → (bits : List Bool) (xs : List A) → AllUnset P bits xs → AllUnset Q bits (map g xs)
unset_weaker P Q g f [] xs h = tt
unset_weaker P Q g f (b ∷ bits) [] h = tt
unset_weaker P Q g f (true ∷ bits) (x ∷ xs) h = unset_weaker P Q g f bits xs h
unset_weaker P Q g f (false ∷ bits) (x ∷ xs) h = (f x h.0, unset_weaker P Q g f bits xs h.1)

plain_back : (b : Bits) → b.lead ≡ 0 → b ≡ plain b.bits
plain_back b e = ap (λ n. record { bits = b.bits; lead = n }) e

-- as many nulls as there are
replicate_nulls : (n : ℕ) → length (replicate {A = Slot} n null) ≡ n
replicate_nulls n = length-replicate n null

pub nulls_back : (t : TypeData) (n : ℕ) → IsColumnOf t nulls_of None n → nulls t n ≡ canon t (replicate n null)
nulls_back t n w =
    let core : nulls t n ≡ canon_by t nulls_of (replicate n null) = ap (nulls t) (sym (replicate_nulls n)) in
    core ∙ sym (canon-form t nulls_of (replicate n null) w.of_form)

pub booleans_back : (t : TypeData) (m : Option Bits) (vs : Bits) → IsColumnOf t booleans_of m (length vs.bits) → MaskIsNeeded m → vs.lead ≡ 0 → AllUnset (λ b. b ≡ false) (mask_bits m (length vs.bits)) vs.bits
    → booleans t m vs ≡ canon t (masked m (map bool vs.bits))
booleans_back t m vs w need lead zeros =
    let n = length vs.bits in
    let bits = mask_bits m n in
    let s = masked m (map bool vs.bits) in
    let values : map boolean_of s ≡ vs.bits = unmasked bool boolean_of false refl m n vs.bits refl w.mask (all_set (λ x. boolean_of (bool x) ≡ x) (λ x. refl) bits vs.bits) zeros in
    let mask : mask_of s ≡ m = mask_back bool m n vs.bits refl w.mask need (all_set (λ x. is_valid (bool x) ≡ true) (λ x. refl) bits vs.bits) in
    let core : booleans t m vs ≡ canon_by t booleans_of s = ap (booleans t m) (plain_back vs lead) ∙ rw (mask, values) refl in
    core ∙ sym (canon-form t booleans_of s w.of_form)

pub numbers_back : (t : TypeData) (m : Option Bits) (vs : List (List ℤ)) → IsColumnOf t (primitives_of (primitive_by (form_of t))) m (length vs) → MaskIsNeeded m
    → AllUnset (λ v. v ≡ zeros (primitive_by (form_of t))) (mask_bits m (length vs)) vs → primitives t m vs ≡ canon t (masked m (map num vs))
numbers_back t m vs w need unset =
    let p = primitive_by (form_of t) in
    let d = zeros p in
    let n = length vs in
    let bits = mask_bits m n in
    let s = masked m (map num vs) in
    let values : map (numbers_or d) s ≡ vs = unmasked num (numbers_or d) d refl m n vs refl w.mask (all_set (λ x. numbers_or d (num x) ≡ x) (λ x. refl) bits vs) unset in
    let mask : mask_of s ≡ m = mask_back num m n vs refl w.mask need (all_set (λ x. is_valid (num x) ≡ true) (λ x. refl) bits vs) in
    let core : primitives t m vs ≡ canon_by t (primitives_of p) s = rw (mask, values) refl in
    core ∙ sym (canon-form t (primitives_of p) s w.of_form)

pub binaries_back : (t : TypeData) (m : Option Bits) (os : List ℤ) (bs : List ℕ) → IsColumnOf t (binaries_of (large_by (form_of t)) (text_by (form_of t))) m (pred (length os)) → AreOffsetsWithin (offset_limit (form_of t)) (length bs) os
    → MaskIsNeeded m → IsFlat (length bs) (map nat_of os) (mask_bits m (pred (length os))) → binaries t m os bs ≡ canon t (masked m (binary_slots os bs))
binaries_back t m os bs w are need flat =
    let us = pieces (map nat_of os) bs in
    let n = pred (length os) in
    let s = masked m (map bytes us) in
    let mask : mask_of s ≡ m = mask_back bytes m n us (length-pieces os bs) w.mask need (all_set (λ x. is_valid (bytes x) ≡ true) (λ x. refl) (mask_bits m n) us) in
    let offs = offsets_back bytes (bytes_or []) (λ x. refl) refl m os _ (length bs) bs refl are w.mask flat in
    let join = joined_back bytes (bytes_or []) (λ x. refl) refl m os _ (length bs) bs refl are w.mask flat in
    let core : binaries t m os bs ≡ canon_by t (binaries_of (large_by (form_of t)) (text_by (form_of t))) s = rw (mask, offs, join) refl in
    core ∙ sym (canon-form t _ s w.of_form)

pub fixed_binaries_back : (t : TypeData) (m : Option Bits) (k n : ℕ) (bs : List ℕ) → IsColumnOf t (fixed_size_binaries_of k) m n → length bs ≡ n * k → MaskIsNeeded m
    → AllUnset (λ v. v ≡ replicate k 0) (mask_bits m n) (chunks k n bs) → fixed_size_binaries t m k n bs ≡ canon t (masked m (fixed_binary_slots k n bs))
fixed_binaries_back t m k n bs w len need unset =
    let d : List ℕ = replicate k 0 in
    let us = chunks k n bs in
    let s = masked m (map bytes us) in
    let mask : mask_of s ≡ m = mask_back bytes m n us (length-chunks k n bs) w.mask need (all_set (λ x. is_valid (bytes x) ≡ true) (λ x. refl) (mask_bits m n) us) in
    let back : map (bytes_or d) s ≡ us = unmasked bytes (bytes_or d) d refl m n us (length-chunks k n bs) w.mask (all_set (λ x. bytes_or d (bytes x) ≡ x) (λ x. refl) (mask_bits m n) us) unset in
    let join : flat_map (bytes_or d) s ≡ bs = flat_map-of_map (bytes_or d) s ∙ (ap (flat_map (λ ys. ys)) back ∙ chunks_join k n bs len) in
    let count : length s ≡ n = length-masked m (map bytes us) ∙ (length-map us bytes ∙ length-chunks k n bs) in
    let core : fixed_size_binaries t m k n bs ≡ canon_by t (fixed_size_binaries_of k) s = rw (mask, count, join) refl in
    core ∙ sym (canon-form t (fixed_size_binaries_of k) s w.of_form)

pub views_column_back : (t : TypeData) (m : Option Bits) (vs : List View) (buffers : List (List ℕ)) → IsColumnOf t (views_of (text_by (form_of t))) m (length vs) → AllByRecursion (IsView buffers) vs → MaskIsNeeded m
    → AllUnset (λ v. v ≡ zero_view) (mask_bits m (length vs)) vs → AreInOrder view_limit buffers vs → views t m vs buffers ≡ canon t (masked m (view_slots buffers vs))
views_column_back t m vs buffers w are need unset order =
    let us = map (view_bytes buffers) vs in
    let n = length vs in
    let s = masked m (map bytes us) in
    let len : length us ≡ n = length-map vs (view_bytes buffers) in
    let mask : mask_of s ≡ m = mask_back bytes m n us len w.mask need (all_set (λ x. is_valid (bytes x) ≡ true) (λ x. refl) (mask_bits m n) us) in
    let empty : AllUnset (λ u. u ≡ []) (mask_bits m n) us = unset_weaker (λ v. v ≡ zero_view) (λ u. u ≡ []) (view_bytes buffers) (λ v e. ap (view_bytes buffers) e) (mask_bits m n) vs unset in
    let values : map (bytes_or []) s ≡ us = unmasked bytes (bytes_or []) [] refl m n us len w.mask (all_set (λ x. bytes_or [] (bytes x) ≡ x) (λ x. refl) (mask_bits m n) us) empty in
    let viewed : packed_views view_limit (map (bytes_or []) s) ≡ vs = ap (packed_views view_limit) values ∙ views_back view_limit buffers vs (omega arith) are order in
    let stored : pack view_limit (longs (map (bytes_or []) s)) ≡ buffers = ap (λ ys. pack view_limit (longs ys)) values ∙ buffers_back view_limit buffers vs are order in
    let core : views t m vs buffers ≡ canon_by t (views_of (text_by (form_of t))) s =
    ap (λ k. views t k vs buffers) (sym mask) ∙ (ap (λ ws. views t (mask_of s) ws buffers) (sym viewed) ∙ ap (views t (mask_of s) (packed_views view_limit (map (bytes_or []) s))) (sym stored)) in
    core ∙ sym (canon-form t (views_of (text_by (form_of t))) s w.of_form)
