-- What slots are, by position: null where the mask has an unset bit, and else what stands under it.
use Rattle.std.proofs.Common.{◌≡◌, ℕ, zero, suc, ◌+◌, ◌-◌, ◌*◌, ◌%◌, ◌^◌, ◌<◌, ◌≤◌, Bool, true, false, cond, List, [], ◌∷◌, length, map, take, drop, get_or, replicate, slice_get, Option, Some, None, refl, ap, sym, ◌∙◌, subst, arith}
use Rattle.std.specs.Prelude.{ℤ, pos, negsuc, pred}
use Rattle.std.proofs.lemmas.List.{drop-drop, get_or-replicate, length-replicate}
use Rattle.std.proofs.lemmas.Option.{get_or_from_slice_get}
use Rattle.std.proofs.lemmas.Bool.{false≢true}
use Rattle.std.proofs.Math.Nat.{mul-le-mul_right}
use Rattle.arrow_types.specs.Carried.{IsBelow}
use Rattle.arrow_types.specs.Select.{nat_of}
use Rattle.arrow_types.specs.TypeData.{TypeData}
use Rattle.arrow_buffers.specs.Bits.{Bits}
use Rattle.arrow_flat.proofs.Lists.{map-map}
use Rattle.arrow_flat.specs.Natives.{octets}
use Rattle.arrow_flat.specs.Pieces.{pieces, chunks}
use Rattle.arrow_flat.specs.Primitives.{valid_at}
use Rattle.arrow_flat.specs.Slots.{Slot, null, bool, num, bytes, items, parts, Slots, no_slots, slot, slots_of}
use Rattle.arrow_bytes.specs.Binaries.{Binaries}
use Rattle.arrow_bytes.specs.Binaries as binaries_of
use Rattle.arrow_bytes.specs.FixedSizeBinaries.{FixedSizeBinaries}
use Rattle.arrow_bytes.specs.FixedSizeBinaries as sized
use Rattle.arrow_buffers.specs.Offsets.{to_nat}
use Rattle.arrow_layout.specs.Denote.{denote, masked, masked_by, under, validity_of, rows, with_column, item_slots, list_slots}
use Rattle.arrow_layout.specs.Layouts.{Layout, nulls, booleans, primitives, binaries, fixed_size_binaries, views, lists, fixed_size_lists, structs, sparse_unions, dense_unions, dictionaries, layouts, length_of}
use Rattle.arrow_layout.specs.Masks.{valid_in}
use Rattle.arrow_layout.specs.NodeCount.{node_count, node_counts}
use Rattle.arrow_layout.specs.WellFormed.{WellFormed, AreWellFormed, AllSet, MaskFits, mask_bits, AscendTo, AreOffsetsTo}
use Rattle.arrow_layout.proofs.Lengths.{length-denote, length-rows}
use Rattle.arrow_layout.proofs.Remasked.{denote-under}
use Rattle.arrow_meaning.proofs.FlatLayouts.{same_naturals}
use Rattle.arrow_meaning.proofs.Octets.{pieces_map, chunks_map}
use Rattle.arrow_meaning.specs.Nodes.{binary_layout, fixed_size_binary_layout, key_number}
use Rattle.arrow_equal.specs.SlotParts.{AllHave, HasParts, IsMadeOf, part_count, slot_of}
use Rattle.arrow_equal.specs.declared.slot_parts.SlotParts.{SlotParts}
use Rattle.arrow_equal.specs.declared.slot_parts.SlotParts.TheVariants as made_of
use Rattle.arrow_equal.specs.SlotAt.{slot_at}

-- ---- the mask

null_either : (b : Bool) → null ≡ cond b null null
null_either true = refl
null_either false = refl

masked_at : (bits : List Bool) (xs : List Slot) (i : ℕ) → i < length bits → get_or (masked_by bits xs) i null ≡ cond (get_or bits i false) (get_or xs i null) null
masked_at [] xs i h = absurd (omega (arith, h))
masked_at (b ∷ bits) [] i h = null_either (get_or (b ∷ bits) i false)
masked_at (b ∷ bits) (x ∷ xs) zero h = refl
masked_at (b ∷ bits) (x ∷ xs) (suc i) h = masked_at bits xs i (omega (arith, h))

mask_at : (m : Option Bits) (n : ℕ) (xs : List Slot) (i : ℕ) → MaskFits m n → i < n → get_or (masked m xs) i null ≡ cond (valid_at m i) (get_or xs i null) null
mask_at None n xs i w h = refl
mask_at (Some b) n xs i w h = masked_at b.bits xs i (omega (arith, h, w.0))

mask_fits : (l : Layout) → WellFormed l → MaskFits (validity_of l) (length_of l)
mask_fits (nulls t n) w = tt
mask_fits (booleans t m vs) w = w.0.mask
mask_fits (primitives t m vs) w = w.0.mask
mask_fits (binaries t m os bs) w = w.0.mask
mask_fits (fixed_size_binaries t m k n bs) w = w.0.mask
mask_fits (views t m vs buffers) w = w.0.mask
mask_fits (lists t m os l) w = w.0.mask
mask_fits (fixed_size_lists t m k n l) w = w.0.mask
mask_fits (structs t m n ls) w = w.0.mask
mask_fits (sparse_unions t o ts ls) w = tt
mask_fits (dense_unions t o ts os ls) w = tt
mask_fits (dictionaries t u m ks l) w = w.0.mask

-- by whether the slot is valid
slot_is : (l : Layout) (i : ℕ) → WellFormed l → i < length_of l → slot_at l i ≡ cond (valid_in l i) (get_or (under l) i null) null
unfolding slot_at
slot_is (nulls t n) i w h = get_or-replicate n i null null h
slot_is l i w h = ap (λ xs. get_or xs i null) (denote-under l) ∙ mask_at (validity_of l) (length_of l) (under l) i (mask_fits l w) h

pub slot_null : (l : Layout) (i : ℕ) → WellFormed l → i < length_of l → valid_in l i ≡ false → slot_at l i ≡ null
slot_null l i w h v = slot_is l i w h ∙ ap (λ b. cond b (get_or (under l) i null) null) v

-- of a layout known by its parts
pub slot_valid : (l k : Layout) (i : ℕ) (x : Slot) → l ≡ k → WellFormed l → i < length_of l → valid_in l i ≡ true → get_or (under k) i null ≡ x → slot_at l i ≡ x
slot_valid l k i x e w h v s = slot_is l i w h ∙ ap (λ b. cond b (get_or (under l) i null) null) v ∙ ap (λ j. get_or (under j) i null) e ∙ s

-- ---- values

mapped_at : {A : Type 0} (f : A → Slot) (xs : List A) (i : ℕ) (x : A) → slice_get xs i ≡ Some x → get_or (map f xs) i null ≡ f x
mapped_at f [] i x e = cc
mapped_at f (y ∷ xs) zero x e = let h : y ≡ x = cc in ap f h
mapped_at f (y ∷ xs) (suc i) x e = mapped_at f xs i x e

pub bool_at : (bits : List Bool) (i : ℕ) (b : Bool) → slice_get bits i ≡ Some b → get_or (map bool bits) i null ≡ bool b
bool_at bits i b e = mapped_at bool bits i b e

module _ {O : Type 0} (number : O → ℤ) where
  pub binary_at : (a : Binaries O) (i : ℕ) (bs : List ℕ) → slice_get (binaries_of.values_of number a) i ≡ Some bs → get_or (under (binary_layout number a)) i null ≡ bytes (octets bs)
  binary_at a i bs e =
      let whole : under (binary_layout number a) ≡ map (λ v. bytes (octets v)) (binaries_of.values_of number a) =
      ap (λ ns. map bytes (pieces ns (octets a.values))) (sym (same_naturals (map number a.offsets)))
      ∙ (ap (map bytes) (pieces_map (λ b. b % 256) (map to_nat (map number a.offsets)) a.values) ∙ map-map bytes octets (binaries_of.values_of number a))
      in
      ap (λ xs. get_or xs i null) whole ∙ mapped_at (λ v. bytes (octets v)) (binaries_of.values_of number a) i bs e

pub fixed_binary_at : (a : FixedSizeBinaries) (i : ℕ) (bs : List ℕ) → slice_get (sized.values_of a) i ≡ Some bs → get_or (under (fixed_size_binary_layout a)) i null ≡ bytes (octets bs)
fixed_binary_at a i bs e =
    let whole : under (fixed_size_binary_layout a) ≡ map (λ v. bytes (octets v)) (sized.values_of a) =
    ap (map bytes) (chunks_map (λ b. b % 256) a.size (sized.slot_count a) a.values) ∙ map-map bytes octets (sized.values_of a)
    in
    ap (λ xs. get_or xs i null) whole ∙ mapped_at (λ v. bytes (octets v)) (sized.values_of a) i bs e

pub view_at : (vs : List (List ℕ)) (i : ℕ) (bs : List ℕ) → slice_get vs i ≡ Some bs → get_or (map bytes vs) i null ≡ bytes bs
view_at vs i bs e = mapped_at bytes vs i bs e

-- ---- lists

piece_at : {A : Type 0} (os : List ℤ) (xs : List A) (i s e : ℕ) → slice_get os i ≡ Some (pos s) → slice_get os (suc i) ≡ Some (pos e)
    → slice_get (pieces (map nat_of os) xs) i ≡ Some (take (e - s) (drop s xs))
piece_at [] xs i s e h k = cc
piece_at (o ∷ []) xs i s e h k = cc
piece_at (o ∷ p ∷ os) xs zero s e h k = cc
piece_at (o ∷ p ∷ os) xs (suc i) s e h k = piece_at (p ∷ os) xs i s e h k

pub list_at : (os : List ℤ) (xs : List Slot) (i s e : ℕ) → slice_get os i ≡ Some (pos s) → slice_get os (i + 1) ≡ Some (pos e)
    → get_or (list_slots os xs) i null ≡ items (slots_of (take (e - s) (drop s xs)))
list_at os xs i s e h k =
    let q : suc i ≡ i + 1 = omega arith in
    mapped_at (λ ys. items (slots_of ys)) (pieces (map nat_of os) xs) i (take (e - s) (drop s xs)) (piece_at os xs i s e h (ap (slice_get os) q ∙ k))

ascend_top : (top a : ℕ) (os : List ℕ) → AscendTo top a os → a ≤ top
ascend_top top a [] h = h
ascend_top top a (b ∷ os) h = let r = ascend_top top b os h.1 in omega (arith, r, h.0)

below_top : (top a : ℕ) (os : List ℤ) (i e : ℕ) → AscendTo top a (map nat_of os) → slice_get os i ≡ Some (pos e) → e ≤ top
below_top top a [] i e h k = cc
below_top top a (o ∷ os) zero e h k =
    let same : o ≡ pos e = cc in
    let n = ap nat_of same in omega (arith, n, ascend_top top (nat_of o) (map nat_of os) h.1)
below_top top a (o ∷ os) (suc i) e h k = below_top top (nat_of o) os i e h.1 k

pub offset_below : (top : ℕ) (os : List ℤ) (i e : ℕ) → AreOffsetsTo top (map nat_of os) → slice_get os i ≡ Some (pos e) → e ≤ top
offset_below top [] i e h k = absurd h
offset_below top (o ∷ os) zero e h k =
    let same : o ≡ pos e = cc in
    let n = ap nat_of same in omega (arith, n, ascend_top top (nat_of o) (map nat_of os) h)
offset_below top (o ∷ os) (suc i) e h k = below_top top (nat_of o) os i e h k

-- ---- fixed-size lists

chunk_at : {A : Type 0} (k n : ℕ) (xs : List A) (i : ℕ) → i < n → slice_get (chunks k n xs) i ≡ Some (take k (drop (i * k) xs))
chunk_at k zero xs i h = absurd (omega (arith, h))
chunk_at k (suc n) xs zero h = let e : 0 * k ≡ 0 = omega arith in rw e refl
chunk_at k (suc n) xs (suc i) h =
    let e : k + i * k ≡ suc i * k = omega arith in
    chunk_at k n (drop k xs) i (omega (arith, h)) ∙ ap (λ ys. Some (take k ys)) (drop-drop (i * k) k xs ∙ ap (λ j. drop j xs) e)

pub chunk_slot_at : (k n : ℕ) (xs : List Slot) (i : ℕ) → i < n → get_or (item_slots (chunks k n xs)) i null ≡ items (slots_of (take k (drop (i * k) xs)))
chunk_slot_at k n xs i h = mapped_at (λ ys. items (slots_of ys)) (chunks k n xs) i (take k (drop (i * k) xs)) (chunk_at k n xs i h)

-- ---- structs

column_at : (xs : List Slot) (rs : List Slots) (i : ℕ) → i < length xs → i < length rs → slice_get (with_column xs rs) i ≡ Some (slot (get_or xs i null) (get_or rs i no_slots))
column_at [] rs i h k = absurd (omega (arith, h))
column_at (x ∷ xs) [] i h k = absurd (omega (arith, k))
column_at (x ∷ xs) (r ∷ rs) zero h k = refl
column_at (x ∷ xs) (r ∷ rs) (suc i) h k = column_at xs rs i (omega (arith, h)) (omega (arith, k))

row_at : (n : ℕ) (ls : List Layout) (i : ℕ) → AreWellFormed (λ k. k ≡ n) (layouts ls) → i < n → slice_get (rows n (layouts ls)) i ≡ Some (slots_of (map (λ l. slot_at l i) ls))
unfolding slot_at
row_at n [] i w h = slice_get-replicate n i h
  where
    slice_get-replicate : (n i : ℕ) → i < n → slice_get (replicate n no_slots) i ≡ Some no_slots
    slice_get-replicate zero i h = absurd (omega (arith, h))
    slice_get-replicate (suc n) zero h = refl
    slice_get-replicate (suc n) (suc i) h = slice_get-replicate n i (omega (arith, h))
row_at n (l ∷ ls) i w h =
    let others = row_at n ls i w.2 h in
    let many : length (rows n (layouts ls)) ≡ n = length-rows n (layouts ls) w.2 in
    let long : length (denote l) ≡ n = length-denote l w.1 ∙ w.0 in
    column_at (denote l) (rows n (layouts ls)) i (omega (arith, long, h)) (omega (arith, many, h))
    ∙ ap (λ r. Some (slot (get_or (denote l) i null) r)) (get_or_from_slice_get (rows n (layouts ls)) i (slots_of (map (λ k. get_or (denote k) i null) ls)) no_slots others)

pub struct_at : (n : ℕ) (ls : List Layout) (i : ℕ) → AreWellFormed (λ k. k ≡ n) (layouts ls) → i < n → get_or (map parts (rows n (layouts ls))) i null ≡ parts (slots_of (map (λ l. slot_at l i) ls))
struct_at n ls i w h = mapped_at parts (rows n (layouts ls)) i (slots_of (map (λ l. slot_at l i) ls)) (row_at n ls i w h)

pub all_have : (n : ℕ) (ls : List Layout) (i : ℕ) → AreWellFormed (λ k. k ≡ n) (layouts ls) → i < n → AllHave i ls
all_have n [] i w h = tt
all_have n (l ∷ ls) i w h = (omega (arith, w.0, h), all_have n ls i w.2 h)

-- ---- dictionaries

pub key_at : (ks : List ℤ) (l : Layout) (i k : ℕ) → slice_get ks i ≡ Some (pos k) → get_or (map (λ z. get_or (denote l) (nat_of z) null) ks) i null ≡ slot_at l k
unfolding slot_at
key_at ks l i k e = mapped_at (λ z. get_or (denote l) (nat_of z) null) ks i (pos k) e

-- ---- what each kind of slot is made of

pub list_made : (l : Layout) (t : TypeData) (m : Option Bits) (os : List ℤ) (c : Layout) (i s e : ℕ) → l ≡ lists t m os c → WellFormed l → i < length_of l → valid_in l i ≡ true
    → slice_get os i ≡ Some (pos s) → slice_get os (i + 1) ≡ Some (pos e) → s ≤ e
    → (s + (e - s) ≤ length_of c) × (node_count c < node_count l) × (slot_at l i ≡ items (slots_of (take (e - s) (drop s (denote c)))))
list_made l t m os c i s e is w h v a b le =
    let k : WellFormed (lists t m os c) = subst WellFormed is w in
    let top = offset_below (length_of c) os (i + 1) e k.1.ascend b in
    (omega (arith, top, le), omega (arith, ap node_count is), slot_valid l (lists t m os c) i (items (slots_of (take (e - s) (drop s (denote c))))) is w h v (list_at os (denote c) i s e a b))

pub offsets_above : (l : Layout) (t : TypeData) (m : Option Bits) (os : List ℤ) (c : Layout) (i : ℕ) → l ≡ lists t m os c → i < length_of l → i + 1 < length os
offsets_above l t m os c i is h = by os (subst (λ k. i < length_of k) is h)
  where
    by : (os : List ℤ) → i < pred (length os) → i + 1 < length os
    by [] h = absurd (omega (arith, h))
    by (o ∷ os) h = omega (arith, h)

chunk_within : (i k n : ℕ) → i < n → i * k + k ≤ n * k
chunk_within i k n h = let e : i * k + k ≡ suc i * k = omega arith in omega (arith, e, mul-le-mul_right k (let q : suc i ≤ n = omega (arith, h) in q))

pub fixed_list_made : (l : Layout) (t : TypeData) (m : Option Bits) (k n : ℕ) (c : Layout) (i : ℕ) → l ≡ fixed_size_lists t m k n c → WellFormed l → i < length_of l → valid_in l i ≡ true
    → (i * k + k ≤ length_of c) × (node_count c < node_count l) × (slot_at l i ≡ items (slots_of (take k (drop (i * k) (denote c)))))
fixed_list_made l t m k n c i is w h v =
    let f : WellFormed (fixed_size_lists t m k n c) = subst WellFormed is w in
    let b : i < n = subst (λ j. i < length_of j) is h in (
      omega (arith, chunk_within i k n b, f.1),
      omega (arith, ap node_count is),
      slot_valid l (fixed_size_lists t m k n c) i (items (slots_of (take k (drop (i * k) (denote c))))) is w h v (chunk_slot_at k n (denote c) i b),
    )

pub struct_made : (l : Layout) (t : TypeData) (m : Option Bits) (n : ℕ) (cs ls : List Layout) (i : ℕ) → l ≡ structs t m n (layouts cs) → ls ≡ cs → WellFormed l → i < length_of l → valid_in l i ≡ true
    → AllHave i ls × (node_counts (layouts ls) < node_count l) × (slot_at l i ≡ parts (slots_of (map (λ c. slot_at c i) ls)))
struct_made l t m n cs ls i is same w h v =
    let f : WellFormed (structs t m n (layouts cs)) = subst WellFormed is w in
    let b : i < n = subst (λ j. i < length_of j) is h in
    subst (λ xs. AllHave i xs × (node_counts (layouts xs) < node_count l) × (slot_at l i ≡ parts (slots_of (map (λ c. slot_at c i) xs)))) (sym same)
    (all_have n cs i f.2 b, omega (arith, ap node_count is), slot_valid l (structs t m n (layouts cs)) i (parts (slots_of (map (λ c. slot_at c i) cs))) is w h v (struct_at n cs i f.2 b))

key_set : (n : ℕ) (bits : List Bool) (ks : List ℤ) (i : ℕ) → AllSet (IsBelow n) bits ks → i < length bits → i < length ks → get_or bits i false ≡ true → IsBelow n (get_or ks i (pos 0))
key_set n [] ks i a h k v = absurd (omega (arith, h))
key_set n (b ∷ bits) [] i a h k v = absurd (omega (arith, k))
key_set n (true ∷ bits) (z ∷ ks) zero a h k v = a.0
key_set n (false ∷ bits) (z ∷ ks) zero a h k v = cc
key_set n (true ∷ bits) (z ∷ ks) (suc i) a h k v = key_set n bits ks i a.1 (omega (arith, h)) (omega (arith, k)) v
key_set n (false ∷ bits) (z ∷ ks) (suc i) a h k v = key_set n bits ks i a (omega (arith, h)) (omega (arith, k)) v

key_below : (n : ℕ) (m : Option Bits) (ks : List ℤ) (i : ℕ) → AllSet (IsBelow n) (mask_bits m (length ks)) ks → MaskFits m (length ks) → i < length ks → valid_at m i ≡ true → IsBelow n (get_or ks i (pos 0))
key_below n None ks i a f h v =
    let long : length (replicate (length ks) true) ≡ length ks = length-replicate (length ks) true in
    key_set n (replicate (length ks) true) ks i a (omega (arith, h, long)) h (get_or-replicate (length ks) i true false h)
key_below n (Some b) ks i a f h v = key_set n b.bits ks i a (omega (arith, h, f.0)) h v

module _ (l : Layout) (t u : TypeData) (m : Option Bits) (ks : List ℤ) (c : Layout) (i : ℕ) (is : l ≡ dictionaries t u m ks c) (w : WellFormed l) (h : i < length_of l) (v : valid_in l i ≡ true) where
  pub key_names : IsBelow (length_of c) (get_or ks i (pos 0))
  key_names =
      let f : WellFormed (dictionaries t u m ks c) = subst WellFormed is w in
      key_below (length_of c) m ks i f.3 f.0.mask (subst (λ j. i < length_of j) is h) (subst (λ j. valid_in j i ≡ true) is v)

  pub key_fits : length_of c < 2 ^ 64 → IsBelow (2 ^ 64) (get_or ks i (pos 0))
  key_fits fits = wider (get_or ks i (pos 0)) key_names
    where
      wider : (z : ℤ) → IsBelow (length_of c) z → IsBelow (2 ^ 64) z
      wider (pos n) b = omega (arith, b, fits)
      wider (negsuc n) b = b

  pub dictionary_made : (k : ℕ) → slice_get ks i ≡ Some (pos k) → (k < length_of c) × (node_count c < node_count l) × (slot_at l i ≡ slot_at c k)
  dictionary_made k e =
      let z : get_or ks i (pos 0) ≡ pos k = get_or_from_slice_get ks i (pos k) (pos 0) e in (
        subst (IsBelow (length_of c)) z key_names,
        omega (arith, ap node_count is),
        slot_valid l (dictionaries t u m ks c) i (slot_at c k) is w h v (key_at ks c i k e),
      )

-- ---- what has no parts

pub null_has_none : (l : Layout) (t : TypeData) (n i : ℕ) → l ≡ nulls t n → valid_in l i ≡ true → ⊥
null_has_none l t n i is v = let e : false ≡ true = sym (ap (λ j. valid_in j i) is) ∙ v in false≢true e

pub number_at : {A : Type 0} (numbers : A → List ℤ) (xs : List A) (i : ℕ) (x : A) → slice_get xs i ≡ Some x → get_or (map num (map numbers xs)) i null ≡ num (numbers x)
number_at numbers xs i x e = ap (λ ys. get_or ys i null) (map-map num numbers xs) ∙ mapped_at (λ y. num (numbers y)) xs i x e

pub key_number_at : {A : Type 0} (numbers : A → List ℤ) (xs : List A) (i : ℕ) (x : A) → slice_get xs i ≡ Some x → slice_get (map key_number (map numbers xs)) i ≡ Some (key_number (numbers x))
key_number_at numbers [] i x e = cc
key_number_at numbers (y ∷ xs) zero x e = let h : y ≡ x = cc in ap (λ z. Some (key_number (numbers z))) h
key_number_at numbers (y ∷ xs) (suc i) x e = key_number_at numbers xs i x e

-- ---- what the steps of a recursion keep

null_in : (c : Layout) (t : TypeData) (n i : ℕ) → c ≡ nulls t n → i < n → slot_at c i ≡ null
unfolding slot_at
null_in c t n i is b = ap (λ l. get_or (denote l) i null) is ∙ get_or-replicate n i null null b

pub have_at : (ls : List Layout) (i k : ℕ) (l : Layout) → AllHave i ls → k < length ls → l ≡ get_or ls k l → i < length_of l
have_at [] i k l a h e = absurd (omega (arith, h))
have_at (c ∷ ls) i zero l a h e = omega (arith, a.0, ap length_of e)
have_at (c ∷ ls) i (suc k) l a h e = have_at ls i k l a.1 (omega (arith, h)) e

pub count_at : (ls : List Layout) (k : ℕ) (l : Layout) → k < length ls → l ≡ get_or ls k l → node_count l ≤ node_counts (layouts ls)
count_at [] k l h e = absurd (omega (arith, h))
count_at (c ∷ ls) zero l h e = omega (arith, ap node_count e)
count_at (c ∷ ls) (suc k) l h e = omega (arith, count_at ls k l (omega (arith, h)) e)

-- ---- parts

count_positive : (l : Layout) → 0 < node_count l
count_positive (nulls t n) = omega arith
count_positive (booleans t m vs) = omega arith
count_positive (primitives t m vs) = omega arith
count_positive (binaries t m os bs) = omega arith
count_positive (fixed_size_binaries t m k n bs) = omega arith
count_positive (views t m vs buffers) = omega arith
count_positive (lists t m os l) = omega arith
count_positive (fixed_size_lists t m k n l) = omega arith
count_positive (structs t m n ls) = omega arith
count_positive (sparse_unions t o ts ls) = omega arith
count_positive (dense_unions t o ts os ls) = omega arith
count_positive (dictionaries t u m ks l) = omega arith

pub value_made : (l k : Layout) (i : ℕ) (p : SlotParts) → l ≡ k → WellFormed l → i < length_of l → valid_in l i ≡ true → get_or (under k) i null ≡ slot_of p → HasParts p → part_count p ≡ 0 → IsMadeOf p l i
value_made l k i p e w h v s has own = (has, omega (arith, own, count_positive l), slot_valid l k i (slot_of p) e w h v s)

pub null_made : (l : Layout) (i : ℕ) → WellFormed l → i < length_of l → valid_in l i ≡ false → IsMadeOf made_of.Null l i
null_made l i w h v = (tt, count_positive l, slot_null l i w h v)

-- what the slot that a key names is made of
pub named_made : (l c : Layout) (i k : ℕ) (p : SlotParts) → (k < length_of c) × (node_count c < node_count l) × (slot_at l i ≡ slot_at c k) → IsMadeOf p c k → IsMadeOf p l i
named_made l c i k p n m = (m.0, omega (arith, n.1, m.1), n.2 ∙ m.2)
