-- The canonical layout of slots picked out of lists, fixed-size lists and structs, and where it fits.
use Rattle.std.proofs.Common.{◌≡◌, ℕ, zero, suc, pred, ◌+◌, ◌-◌, ◌*◌, ◌^◌, ◌≤◌, ◌<◌, ℤ, pos, Bool, List, [], ◌∷◌, length, map, take, drop, get_or, replicate, flat_map, sum, refl, ap, ap₂, sym, ◌∙◌, subst, arith, Option, Some, None}
use Rattle.std.specs.List.{AllByRecursion}
use Rattle.std.proofs.Math.Nat.{mul-le-mul_right}
use Rattle.std.proofs.lemmas.List.{length-map}
use Rattle.std.proofs.lemmas.List.Sums.{sum_by-cons}
use Rattle.arrow_types.specs.Carried.{IsBelow}
use Rattle.arrow_types.specs.Select.{nat_of}
use Rattle.arrow_types.specs.TypeData.{TypeData, FieldList, no_fields, and_field}
use Rattle.arrow_types.specs.TypeData as T
use Rattle.arrow_buffers.specs.Bits.{Bits}
use Rattle.arrow_flat.specs.Pieces.{pieces, pieces_from, chunks}
use Rattle.arrow_flat.specs.Slots.{Slot, null, items, parts, Slots, slot, slots_of}
use Rattle.arrow_flat.proofs.Lists.{map-map, unpacked-packed}
use Rattle.arrow_layout.specs.Canon.{canon, offsets, sums_from, items_or, parts_or, first_or, after_first, canon_parts}
use Rattle.arrow_layout.specs.Denote.{denote, item_slots, rows, with_column}
use Rattle.arrow_layout.specs.Fits.{Fits}
use Rattle.arrow_layout.specs.Forms.{form_of, offset_limit, lists_of, fixed_size_lists_of, structs_of}
use Rattle.arrow_layout.specs.Layouts.{Layout, lists, fixed_size_lists, structs, Layouts, no_layouts, child, type_of, length_of}
use Rattle.arrow_layout.specs.SlotsOf.{fill, fills}
use Rattle.arrow_layout.specs.WellFormed.{WellFormed, AreWellFormed, HaveTypes, MaskFits, AreOffsetsTo}
use Rattle.arrow_layout.proofs.ByForm.{canon-form}
use Rattle.arrow_layout.proofs.CanonLengths.{length-canon}
use Rattle.arrow_layout.proofs.Lengths.{length-denote, length-pieces, length-chunks, length-rows}
use Rattle.arrow_canon.specs.Picks.{pick, picks, picked, picked_mask, IsPlace, ArePlaces}
use Rattle.arrow_canon.proofs.Counts.{count_fits}
use Rattle.arrow_canon.proofs.Picked.{map_on}
use Rattle.arrow_canon.proofs.Places.{length-span, picks_part, picks_fill}
use Rattle.arrow_items.specs.Items.{kept_places, item_count, item_places, chunk_places}
use Rattle.arrow_items.specs.Kinds.{child_picked, children_picked, lists_picked, chunks_picked, structs_picked}
use Rattle.arrow_items.proofs.KeptPlaces.{flat_map_on, flat_map-after, map-flat_map, map_at, under_mask, kept_are_places, mask_of_kept, all_valid_map}
use Rattle.arrow_items.proofs.Rising.{offsets_rise, offsets_low, some_offsets}

-- ---- lists

piece_from : {A : Type 0} (a : ℕ) (os : List ℕ) (xs : List A) (i : ℕ) → i < length os
    → get_or (pieces_from a os xs) i [] ≡ take (get_or os i 0 - get_or (a ∷ os) i 0) (drop (get_or (a ∷ os) i 0) xs)
piece_from a [] xs i h = absurd (omega (arith, h))
piece_from a (b ∷ os) xs zero h = refl
piece_from a (b ∷ os) xs (suc i) h = piece_from b os xs i (omega (arith, h))

piece_at : {A : Type 0} (os : List ℕ) (xs : List A) (i : ℕ) → suc i < length os
    → get_or (pieces os xs) i [] ≡ take (get_or os (suc i) 0 - get_or os i 0) (drop (get_or os i 0) xs)
piece_at [] xs i h = absurd (omega (arith, h))
piece_at (a ∷ os) xs i h = piece_from a os xs i (omega (arith, h))

module _ (os : List ℕ) (inner : List Slot) (d : Slot) (ascend : AreOffsetsTo (length inner) os) (n : ℕ) (many : n ≡ length (pieces os inner)) (some : suc n ≡ length os) where
  item_at : (p : Option ℕ) → IsPlace n p → items_or [] (pick null (item_slots (pieces os inner)) p) ≡ picks d inner (item_places os p)
  item_at None h = refl
  item_at (Some i) h =
      let a = get_or os i 0 in
      let b = get_or os (suc i) 0 in
      let low = offsets_rise (length inner) os i (suc i) ascend (omega arith) (omega (arith, h, some)) in
      let high = offsets_low (length inner) os (suc i) ascend (omega (arith, h, some)) in
      ap (items_or []) (map_at (λ ys. items (slots_of ys)) (pieces os inner) i [] null (omega (arith, h, many)))
      ∙ unpacked-packed (get_or (pieces os inner) i [])
      ∙ piece_at os inner i (omega (arith, h, some))
      ∙ picks_part d inner a (b - a) (omega (arith, low, high))

  items_joined : (qs : List (Option ℕ)) → ArePlaces n qs
      → flat_map (items_or []) (picks null (item_slots (pieces os inner)) qs) ≡ picks d inner (flat_map (item_places os) qs)
  items_joined qs h =
      flat_map-after (items_or []) (pick null (item_slots (pieces os inner))) qs
      ∙ flat_map_on (IsPlace n) (λ p. items_or [] (pick null (item_slots (pieces os inner)) p)) (λ p. picks d inner (item_places os p)) item_at qs h
      ∙ sym (map-flat_map (pick d inner) (item_places os) qs)

  count_at : (p : Option ℕ) → length (picks d inner (item_places os p)) ≡ item_count os p
  count_at None = refl
  count_at (Some i) = length-map (item_places os (Some i)) (pick d inner) ∙ length-span (get_or os i 0) (get_or os (suc i) 0 - get_or os i 0)

  items_counted : (qs : List (Option ℕ)) → ArePlaces n qs
      → map (λ x. length (items_or [] x)) (picks null (item_slots (pieces os inner)) qs) ≡ map (item_count os) qs
  items_counted qs h =
      map-map (λ x. length (items_or [] x)) (pick null (item_slots (pieces os inner))) qs
      ∙ map_on (IsPlace n) (λ p. length (items_or [] (pick null (item_slots (pieces os inner)) p))) (item_count os) (λ p k. ap length (item_at p k) ∙ count_at p) qs h

pub lists_canon : (large : Bool) (t u : TypeData) (m : Option Bits) (os : List ℤ) (l : Layout) (ps : List (Option ℕ)) → form_of t ≡ lists_of large (type_of l) → MaskFits m (pred (length os))
    → AreOffsetsTo (length_of l) (map nat_of os) → WellFormed l → ArePlaces (pred (length os)) ps
    → canon t (picked t (lists u m os l) ps) ≡ lists_picked t m (map nat_of os) l ps
lists_canon large t u m os l ps e fits ascend w within =
    let f = lists_of large (type_of l) in
    let inner = denote l in
    let d = fill (type_of l) in
    let ns = map nat_of os in
    let n = pred (length os) in
    let xs = item_slots (pieces ns inner) in
    let qs = kept_places m ps in
    let len : length xs ≡ n = length-map (pieces ns inner) (λ ys. items (slots_of ys)) ∙ length-pieces os inner in
    let here : ArePlaces (length xs) ps = subst (λ k. ArePlaces k ps) (sym len) within in
    let there : ArePlaces n qs = kept_are_places m n ps within in
    let up : AreOffsetsTo (length inner) ns = subst (λ k. AreOffsetsTo k ns) (sym (length-denote l w)) ascend in
    let some : suc n ≡ length ns = ap (λ k. suc (pred k)) (sym (length-map os nat_of)) ∙ some_offsets (length_of l) ns ascend in
    let many : n ≡ length (pieces ns inner) = sym (length-pieces os inner) in
    let s = picks null xs qs in
    ap (canon t) (under_mask t f m xs n ps e refl len fits within) ∙ canon-form t f s e
    ∙ ap₂ (λ b k. lists t b (offsets k) (canon (type_of l) (flat_map (items_or []) s)))
    (mask_of_kept m xs ps (all_valid_map (λ ys. items (slots_of ys)) (λ x. refl) (pieces ns inner)) here) (items_counted ns inner d up n many some qs there)
    ∙ ap (λ ys. lists t (picked_mask m ps) (offsets (map (item_count ns) qs)) (canon (type_of l) ys)) (items_joined ns inner d up n many some qs there)

-- ---- fixed-size lists

drop_twice : {A : Type 0} (a b : ℕ) (xs : List A) → drop a (drop b xs) ≡ drop (b + a) xs
drop_twice a zero xs = let e : 0 + a ≡ a = omega arith in ap (λ k. drop k xs) (sym e)
drop_twice {A = A} a (suc b) [] = let e : suc b + a ≡ suc (b + a) = omega arith in none a ∙ sym (ap (λ k. drop k []) e) where
  none : (a : ℕ) → ◌≡◌ {A = List A} (drop a []) []
  none zero = refl
  none (suc a) = refl
drop_twice a (suc b) (x ∷ xs) = let e : suc b + a ≡ suc (b + a) = omega arith in drop_twice a b xs ∙ sym (ap (λ k. drop k (x ∷ xs)) e)

chunk_at : {A : Type 0} (k n : ℕ) (xs : List A) (i : ℕ) → i < n → get_or (chunks k n xs) i [] ≡ take k (drop (i * k) xs)
chunk_at k zero xs i h = absurd (omega (arith, h))
chunk_at k (suc n) xs zero h = let e : 0 * k ≡ 0 = omega arith in sym (ap (λ j. take k (drop j xs)) e)
chunk_at k (suc n) xs (suc i) h =
    let e : k + i * k ≡ suc i * k = omega arith in
    chunk_at k n (drop k xs) i (omega (arith, h)) ∙ ap (take k) (drop_twice (i * k) k xs ∙ ap (λ j. drop j xs) e)

pub mul_room : (a n b k : ℕ) → a + n ≤ b → a * k + n * k ≤ b * k
mul_room a n b k h = let e : a * k + n * k ≡ (a + n) * k = omega arith in omega (arith, e, mul-le-mul_right k h)

module _ (k n : ℕ) (inner : List Slot) (d : Slot) (whole : length inner ≡ n * k) where
  chunk_item : (p : Option ℕ) → IsPlace n p → items_or (replicate k d) (pick null (item_slots (chunks k n inner)) p) ≡ picks d inner (chunk_places k p)
  chunk_item None h = picks_fill d inner k
  chunk_item (Some i) h =
      ap (items_or (replicate k d)) (map_at (λ ys. items (slots_of ys)) (chunks k n inner) i [] null (omega (arith, h, length-chunks k n inner)))
      ∙ unpacked-packed (get_or (chunks k n inner) i [])
      ∙ chunk_at k n inner i h
      ∙ picks_part d inner (i * k) k (omega (arith, whole, mul_room i 1 n k (omega (arith, h))))

  chunks_joined : (qs : List (Option ℕ)) → ArePlaces n qs
      → flat_map (items_or (replicate k d)) (picks null (item_slots (chunks k n inner)) qs) ≡ picks d inner (flat_map (chunk_places k) qs)
  chunks_joined qs h =
      flat_map-after (items_or (replicate k d)) (pick null (item_slots (chunks k n inner))) qs
      ∙ flat_map_on (IsPlace n) (λ p. items_or (replicate k d) (pick null (item_slots (chunks k n inner)) p)) (λ p. picks d inner (chunk_places k p)) chunk_item qs h
      ∙ sym (map-flat_map (pick d inner) (chunk_places k) qs)

kept_count : {A : Type 0} (d : A) (xs : List A) (m : Option Bits) (ps : List (Option ℕ)) → length (picks d xs (kept_places m ps)) ≡ length ps
kept_count d xs m ps = length-map (kept_places m ps) (pick d xs) ∙ length-map ps _

pub chunks_canon : (t u : TypeData) (m : Option Bits) (k n : ℕ) (l : Layout) (ps : List (Option ℕ)) → form_of t ≡ fixed_size_lists_of k (type_of l) → MaskFits m n
    → length_of l ≡ n * k → WellFormed l → ArePlaces n ps → canon t (picked t (fixed_size_lists u m k n l) ps) ≡ chunks_picked t m k l ps
chunks_canon t u m k n l ps e fits whole w within =
    let f = fixed_size_lists_of k (type_of l) in
    let inner = denote l in
    let d = fill (type_of l) in
    let xs = item_slots (chunks k n inner) in
    let qs = kept_places m ps in
    let len : length xs ≡ n = length-map (chunks k n inner) (λ ys. items (slots_of ys)) ∙ length-chunks k n inner in
    let here : ArePlaces (length xs) ps = subst (λ j. ArePlaces j ps) (sym len) within in
    let there : ArePlaces n qs = kept_are_places m n ps within in
    let s = picks null xs qs in
    ap (canon t) (under_mask t f m xs n ps e refl len fits within) ∙ canon-form t f s e
    ∙ ap₂ (λ b j. fixed_size_lists t b k j (canon (type_of l) (flat_map (items_or (replicate k d)) s)))
    (mask_of_kept m xs ps (all_valid_map (λ ys. items (slots_of ys)) (λ x. refl) (chunks k n inner)) here) (kept_count null xs m ps)
    ∙ ap (λ ys. fixed_size_lists t (picked_mask m ps) k (length ps) (canon (type_of l) ys)) (chunks_joined k n inner d (length-denote l w ∙ whole) qs there)

-- ---- structs

column_first : (xs : List Slot) (rs : List Slots) (d : Slot) (r : Slots) (i : ℕ) → i < length xs → length xs ≡ length rs → first_or d (get_or (with_column xs rs) i (slot d r)) ≡ get_or xs i d
column_first [] rs d r i h e = absurd (omega (arith, h))
column_first (x ∷ xs) [] d r i h e = absurd (omega (arith, e))
column_first (x ∷ xs) (q ∷ rs) d r zero h e = refl
column_first (x ∷ xs) (q ∷ rs) d r (suc i) h e = column_first xs rs d r i (omega (arith, h)) (omega (arith, e))

column_rest : (xs : List Slot) (rs : List Slots) (d : Slot) (r : Slots) (i : ℕ) → i < length xs → length xs ≡ length rs → after_first (get_or (with_column xs rs) i (slot d r)) ≡ get_or rs i r
column_rest [] rs d r i h e = absurd (omega (arith, h))
column_rest (x ∷ xs) [] d r i h e = absurd (omega (arith, e))
column_rest (x ∷ xs) (q ∷ rs) d r zero h e = refl
column_rest (x ∷ xs) (q ∷ rs) d r (suc i) h e = column_rest xs rs d r i (omega (arith, h)) (omega (arith, e))

module _ (xs : List Slot) (rs : List Slots) (d : Slot) (r : Slots) (n : ℕ) (many : length xs ≡ n) (same : length rs ≡ n) where
  first_at : (p : Option ℕ) → IsPlace n p → first_or d (pick (slot d r) (with_column xs rs) p) ≡ pick d xs p
  first_at None h = refl
  first_at (Some i) h = column_first xs rs d r i (omega (arith, h, many)) (many ∙ sym same)

  rest_at : (p : Option ℕ) → IsPlace n p → after_first (pick (slot d r) (with_column xs rs) p) ≡ pick r rs p
  rest_at None h = refl
  rest_at (Some i) h = column_rest xs rs d r i (omega (arith, h, many)) (many ∙ sym same)

  firsts : (qs : List (Option ℕ)) → ArePlaces n qs → map (first_or d) (picks (slot d r) (with_column xs rs) qs) ≡ picks d xs qs
  firsts qs h = map-map (first_or d) (pick (slot d r) (with_column xs rs)) qs ∙ map_on (IsPlace n) (λ p. first_or d (pick (slot d r) (with_column xs rs) p)) (pick d xs) first_at qs h

  rests : (qs : List (Option ℕ)) → ArePlaces n qs → map after_first (picks (slot d r) (with_column xs rs) qs) ≡ picks r rs qs
  rests qs h = map-map after_first (pick (slot d r) (with_column xs rs)) qs ∙ map_on (IsPlace n) (λ p. after_first (pick (slot d r) (with_column xs rs) p)) (pick r rs) rest_at qs h

children_canon : (fs : FieldList) (ls : Layouts) (n : ℕ) (qs : List (Option ℕ)) → HaveTypes fs ls → AreWellFormed (λ i. i ≡ n) ls → ArePlaces n qs
    → canon_parts fs (picks (fills fs) (rows n ls) qs) ≡ children_picked ls qs
children_canon no_fields no_layouts n qs h w within = refl
children_canon no_fields (child l ls) n qs h w within = absurd h
children_canon (and_field f fs) no_layouts n qs h w within = absurd h
children_canon (and_field (T.field name t b m) fs) (child l ls) n qs h w within =
    let many : length (denote l) ≡ n = length-denote l w.1 ∙ w.0 in
    let same : length (rows n ls) ≡ n = length-rows n ls w.2 in
    ap₂ child
    (ap (canon t) (firsts (denote l) (rows n ls) (fill t) (fills fs) n many same qs within) ∙ ap (λ u. canon u (picks (fill u) (denote l) qs)) h.0)
    (ap (canon_parts fs) (rests (denote l) (rows n ls) (fill t) (fills fs) n many same qs within) ∙ children_canon fs ls n qs h.1 w.2 within)

-- the rows of slots that are parts
row_at : (d : Slots) (rs : List Slots) (p : Option ℕ) → IsPlace (length rs) p → parts_or d (pick null (map parts rs) p) ≡ pick d rs p
row_at d rs None h = refl
row_at d rs (Some i) h = ap (parts_or d) (map_at parts rs i d null h)

rows_picked : (d : Slots) (rs : List Slots) (qs : List (Option ℕ)) → ArePlaces (length rs) qs → map (parts_or d) (picks null (map parts rs) qs) ≡ picks d rs qs
rows_picked d rs qs h = map-map (parts_or d) (pick null (map parts rs)) qs ∙ map_on (IsPlace (length rs)) (λ p. parts_or d (pick null (map parts rs) p)) (pick d rs) (row_at d rs) qs h

pub structs_canon : (t u : TypeData) (m : Option Bits) (n : ℕ) (fs : FieldList) (ls : Layouts) (ps : List (Option ℕ)) → form_of t ≡ structs_of fs → MaskFits m n
    → HaveTypes fs ls → AreWellFormed (λ i. i ≡ n) ls → ArePlaces n ps → canon t (picked t (structs u m n ls) ps) ≡ structs_picked t m ls ps
structs_canon t u m n fs ls ps e fits types w within =
    let f = structs_of fs in
    let rs = rows n ls in
    let xs = map parts rs in
    let qs = kept_places m ps in
    let rows_len : length rs ≡ n = length-rows n ls w in
    let len : length xs ≡ n = length-map rs parts ∙ rows_len in
    let here : ArePlaces (length xs) ps = subst (λ k. ArePlaces k ps) (sym len) within in
    let there : ArePlaces n qs = kept_are_places m n ps within in
    let inside : ArePlaces (length rs) qs = subst (λ k. ArePlaces k qs) (sym rows_len) there in
    let s = picks null xs qs in
    ap (canon t) (under_mask t f m xs n ps e refl len fits within) ∙ canon-form t f s e
    ∙ ap₂ (λ b j. structs t b j (canon_parts fs (map (parts_or (fills fs)) s))) (mask_of_kept m xs ps (all_valid_map parts (λ x. refl) rs) here) (kept_count null xs m ps)
    ∙ ap (structs t (picked_mask m ps) (length ps)) (ap (canon_parts fs) (rows_picked (fills fs) rs qs inside) ∙ children_canon fs ls n qs types w there)

-- ---- where they fit

-- a child that fits has a count of slots that a usize holds
pub child_count : (l : Layout) (ps : List (Option ℕ)) → Fits (child_picked l ps) → length ps < 2 ^ 64
child_count l ps f =
    let t = type_of l in
    subst (λ n. n < 2 ^ 64) (length-canon t (picked t l ps) ∙ length-map ps (pick (fill t) (denote l))) (count_fits (child_picked l ps) f)

pub sum_cons : (n : ℕ) (ns : List ℕ) → sum (n ∷ ns) ≡ n + sum ns
sum_cons n ns = sum_by-cons (λ x. x) n ns

pub below_sum : (limit a : ℕ) (ns : List ℕ) → a + sum ns < limit → AllByRecursion (IsBelow limit) (map pos (sums_from a ns))
below_sum limit a [] h = tt
below_sum limit a (n ∷ ns) h = (omega (arith, h, sum_cons n ns), below_sum limit (a + n) ns (omega (arith, h, sum_cons n ns)))

pub sum_below : (limit a : ℕ) (ns : List ℕ) → a < limit → AllByRecursion (IsBelow limit) (map pos (sums_from a ns)) → a + sum ns < limit
sum_below limit a [] h k = omega (arith, h)
sum_below limit a (n ∷ ns) h k = omega (arith, sum_below limit (a + n) ns k.0 k.1, sum_cons n ns)

length-sums : (a : ℕ) (ns : List ℕ) → length (map pos (sums_from a ns)) ≡ length ns
length-sums a [] = refl
length-sums a (n ∷ ns) = ap suc (length-sums (a + n) ns)

-- lists whose offsets are in range, over a child that fits
pub lists_fit : (t : TypeData) (m : Option Bits) (os : List ℕ) (l : Layout) (ps : List (Option ℕ)) → length ps < 2 ^ 64 → sum (map (item_count os) (kept_places m ps)) < offset_limit (form_of t)
    → Fits (child_picked l (flat_map (item_places os) (kept_places m ps))) → Fits (lists_picked t m os l ps)
lists_fit t m os l ps few low f =
    let ns = map (item_count os) (kept_places m ps) in
    let len : length (map pos (sums_from 0 ns)) ≡ length ps = length-sums 0 ns ∙ length-map (kept_places m ps) (item_count os) ∙ length-map ps _ in
    (subst (λ n. n < 2 ^ 64) (sym len) few, (omega (arith, low), below_sum (offset_limit (form_of t)) 0 ns (omega (arith, low))), f)

-- the items of lists that fit are fewer than their offsets' limit
pub lists_sum : (t : TypeData) (m : Option Bits) (os : List ℕ) (l : Layout) (ps : List (Option ℕ)) → Fits (lists_picked t m os l ps) → sum (map (item_count os) (kept_places m ps)) < offset_limit (form_of t)
lists_sum t m os l ps f = let ns = map (item_count os) (kept_places m ps) in omega (arith, sum_below (offset_limit (form_of t)) 0 ns f.1.0 f.1.1)

pub lists_child : (t : TypeData) (m : Option Bits) (os : List ℕ) (l : Layout) (ps : List (Option ℕ)) → Fits (lists_picked t m os l ps) → Fits (child_picked l (flat_map (item_places os) (kept_places m ps)))
lists_child t m os l ps f = f.2

-- a fixed-size list fits where its count does and its child fits
pub chunks_fit : (t : TypeData) (m : Option Bits) (k : ℕ) (l : Layout) (ps : List (Option ℕ)) → length ps < 2 ^ 64 → Fits (child_picked l (flat_map (chunk_places k) (kept_places m ps)))
    → Fits (chunks_picked t m k l ps)
chunks_fit t m k l ps few f = (few, f)

pub chunks_child : (t : TypeData) (m : Option Bits) (k : ℕ) (l : Layout) (ps : List (Option ℕ)) → Fits (chunks_picked t m k l ps) → Fits (child_picked l (flat_map (chunk_places k) (kept_places m ps)))
chunks_child t m k l ps f = f.1

-- which is where a usize holds the count of the items
pub chunks_count : (t : TypeData) (m : Option Bits) (k : ℕ) (l : Layout) (ps : List (Option ℕ)) → Fits (chunks_picked t m k l ps) → length (flat_map (chunk_places k) (kept_places m ps)) < 2 ^ 64
chunks_count t m k l ps f = child_count l (flat_map (chunk_places k) (kept_places m ps)) f.1
