-- The items of picked lists, how many they are, and where each list ends.
use Rattle.std.proofs.Common.{◌≡◌, ℕ, zero, suc, ◌+◌, ◌-◌, ◌≤◌, ◌<◌, ℤ, pos, negsuc, List, [], ◌∷◌, ◌++◌, length, pred, map, take, drop, drop-cons, get_or, replicate, flat_map, sum, refl, ap, ap₂, sym, ◌∙◌, subst, arith, Option, None}
use Rattle.std.proofs.Math.ListN.{get_or-map}
use Rattle.std.proofs.lemmas.Int.{ints}
use Rattle.std.proofs.lemmas.List.{map-append, take-map, drop-map, length-map}
use Rattle.std.proofs.lemmas.List.Sums.{sum_by-append}
use Rattle.arrow_types.specs.Select.{nat_of}
use Rattle.arrow_buffers.specs.Offsets.{to_nat, Ascend, AreOffsets, first_of, end_from, end_of, moved}
use Rattle.arrow_buffers.proofs.Ascending.{some-offsets, number_read, offsets_window, offsets_rest, end_of-rest}
use Rattle.arrow_layout.specs.Canon.{offsets, sums_from}
use Rattle.arrow_layout.specs.WellFormed.{AreOffsetsTo}
use Rattle.arrow_meaning.proofs.FlatLayouts.{are_offsets}
use Rattle.arrow_canon.specs.Picks.{span}
use Rattle.arrow_canon.specs.Runs.{places, places_of}
use Rattle.arrow_canon.specs.declared.run.Run.{Run}
use Rattle.arrow_canon.proofs.Places.{places_step}
use Rattle.arrow_items.specs.Items.{item_count, item_places}
use Rattle.arrow_items.proofs.ByKind.{sum_cons}
use Rattle.arrow_items.proofs.Rising.{offsets_rise, offsets_low}
use Rattle.arrow_items.proofs.Spans.{span_join}

pub items_slots : (top : ℕ) (os : List ℕ) → AreOffsetsTo top os → (a n b : ℕ) → a + n ≡ b → b < length os
    → flat_map (item_places os) (span a n) ≡ span (get_or os a 0) (get_or os b 0 - get_or os a 0)
items_slots top os w a zero b e h =
    let f : get_or os b 0 - get_or os a 0 ≡ 0 = let g : b ≡ a = omega (arith, e) in omega (arith, ap (λ k. get_or os k 0) g) in
    sym (ap (span (get_or os a 0)) f)
items_slots top os w a (suc n) b e h =
    let next : suc a ≡ a + 1 = omega arith in
    let same : get_or os (suc a) 0 ≡ get_or os (a + 1) 0 = ap (λ k. get_or os k 0) next in
    let low = offsets_rise top os a (a + 1) w (omega arith) (omega (arith, h, e)) in
    let high = offsets_rise top os (a + 1) b w (omega (arith, e)) h in
    ap (λ ps. span (get_or os a 0) (get_or os (suc a) 0 - get_or os a 0) ++ ps) (items_slots top os w (a + 1) n b (omega (arith, e)) h)
    ∙ span_join (get_or os a 0) (get_or os (suc a) 0 - get_or os a 0) (get_or os (a + 1) 0) (get_or os b 0 - get_or os (a + 1) 0) (omega (arith, low, same))
    ∙ (let g : get_or os (suc a) 0 - get_or os a 0 + (get_or os b 0 - get_or os (a + 1) 0) ≡ get_or os b 0 - get_or os a 0 = omega (arith, low, high, same) in ap (span (get_or os a 0)) g)

pub items_fill : (os : List ℕ) (n : ℕ) → flat_map (item_places os) (replicate n None) ≡ []
items_fill os zero = refl
items_fill os (suc n) = items_fill os n

-- ---- counts of items

pub sum-append : (ns ms : List ℕ) → sum (ns ++ ms) ≡ sum ns + sum ms
sum-append ns ms = sum_by-append (λ x. x) ns ms

pub counts_fill : (os : List ℕ) (n : ℕ) → sum (map (item_count os) (replicate n None)) ≡ 0
counts_fill os zero = refl
counts_fill os (suc n) = omega (arith, counts_fill os n, sum_cons 0 (map (item_count os) (replicate n None)))

pub counts_step : (f : Option ℕ → ℕ) (rs : List Run) (i : ℕ) (d : Run) → i < length rs
    → map f (places (take (i + 1) rs)) ≡ map f (places (take i rs)) ++ map f (places_of (get_or rs i d))
counts_step f rs i d h = ap (map f) (places_step rs i d h) ∙ map-append f (places (take i rs)) (places_of (get_or rs i d))

counts_part : (f : Option ℕ → ℕ) (rs : List Run) (i : ℕ) → sum (map f (places (take i rs))) ≤ sum (map f (places rs))
counts_part f [] zero = omega arith
counts_part f [] (suc i) = omega arith
counts_part f (r ∷ rs) zero = omega arith
counts_part f (r ∷ rs) (suc i) =
    omega (
      arith,
      counts_part f rs i,
      ap sum (map-append f (places_of r) (places (take i rs))),
      sum-append (map f (places_of r)) (map f (places (take i rs))),
      ap sum (map-append f (places_of r) (places rs)),
      sum-append (map f (places_of r)) (map f (places rs)),
    )

-- of the run at i and those before it
pub counts_room : (f : Option ℕ → ℕ) (rs : List Run) (i : ℕ) (d : Run) → i < length rs
    → sum (map f (places (take i rs))) + sum (map f (places_of (get_or rs i d))) ≤ sum (map f (places rs))
counts_room f rs i d h =
    omega (arith, counts_part f rs (i + 1), ap sum (counts_step f rs i d h), sum-append (map f (places (take i rs))) (map f (places_of (get_or rs i d))))

-- ---- where lists end

sums-append : (a : ℕ) (ns ms : List ℕ) → sums_from a (ns ++ ms) ≡ sums_from a ns ++ sums_from (a + sum ns) ms
sums-append a [] ms = let e : a + 0 ≡ a = omega arith in sym (ap (λ b. sums_from b ms) e)
sums-append a (n ∷ ns) ms =
    let e : a + n + sum ns ≡ a + sum (n ∷ ns) = omega (arith, sum_cons n ns) in
    ap (λ ys. (a + n) ∷ ys) (sums-append (a + n) ns ms ∙ ap (λ b. sums_from (a + n) ns ++ sums_from b ms) e)

pub offsets-append : (ns ms : List ℕ) → offsets (ns ++ ms) ≡ offsets ns ++ map pos (sums_from (sum ns) ms)
offsets-append ns ms =
    let e : 0 + sum ns ≡ sum ns = omega arith in
    ap (λ ys. pos 0 ∷ map pos ys) (sums-append 0 ns ms ∙ ap (λ a. sums_from 0 ns ++ sums_from a ms) e)
    ∙ ap (λ ys. pos 0 ∷ ys) (map-append pos (sums_from 0 ns) (sums_from (sum ns) ms))

end_of-sums : (a : ℕ) (ns : List ℕ) → end_from a (map pos (sums_from a ns)) ≡ a + sum ns
end_of-sums a [] = omega arith
end_of-sums a (n ∷ ns) = omega (arith, end_of-sums (a + n) ns, sum_cons n ns)

pub end_of-offsets : (ns : List ℕ) → end_of (offsets ns) ≡ sum ns
end_of-offsets ns = omega (arith, end_of-sums 0 ns)

pub sums_fill : (os : List ℕ) (a n : ℕ) → replicate n (pos a) ≡ map pos (sums_from a (map (item_count os) (replicate n None)))
sums_fill os a zero = refl
sums_fill os a (suc n) =
    let e : a ≡ a + 0 = omega arith in
    ap₂ (λ b ys. pos b ∷ ys) e (sums_fill os a n ∙ ap (λ b. map pos (sums_from b (map (item_count os) (replicate n None)))) e)

-- how far each number is from the one before it
abbrev gaps : ℕ → List ℤ → List ℕ
gaps a [] = []
gaps a (z ∷ zs) = (to_nat z - a) ∷ gaps (to_nat z) zs

moved_gaps : (limit first e a : ℕ) (zs : List ℤ) → Ascend limit (pos a) zs → first ≤ a → moved first e zs ≡ map pos (sums_from (e + (a - first)) (gaps a zs))
moved_gaps limit first e a [] h l = refl
moved_gaps limit first e a (negsuc k ∷ zs) h l = absurd (let q = h.0 in omega (arith, ints))
moved_gaps limit first e a (pos k ∷ zs) h l =
    let q = h.0 in
    let s : e + (k - first) ≡ e + (a - first) + (k - a) = omega (arith, ints) in
    ap₂ (λ n ys. pos n ∷ ys) s (moved_gaps limit first e k zs h.2 (omega (arith, ints)) ∙ ap (λ n. map pos (sums_from n (gaps k zs))) s)

gaps_end : (limit a : ℕ) (zs : List ℤ) → Ascend limit (pos a) zs → a + sum (gaps a zs) ≡ end_from a zs
gaps_end limit a [] h = omega arith
gaps_end limit a (negsuc k ∷ zs) h = absurd (let q = h.0 in omega (arith, ints))
gaps_end limit a (pos k ∷ zs) h =
    let q = h.0 in
    let r = gaps_end limit k zs h.2 in
    let s = sum_cons (k - a) (gaps k zs) in
    omega (arith, ints)

same_nat : (z : ℤ) → to_nat z ≡ nat_of z
same_nat (pos k) = refl
same_nat (negsuc k) = refl

nat_at : (zs : List ℤ) (i : ℕ) → get_or (map nat_of zs) i 0 ≡ to_nat (get_or zs i (pos 0))
nat_at zs i = get_or-map nat_of zs i (pos 0) ∙ sym (same_nat (get_or zs i (pos 0)))

no_gaps : (a : ℕ) (zs : List ℤ) → ◌≡◌ {A = List ℕ} (gaps a (take 0 zs)) []
no_gaps a [] = refl
no_gaps a (z ∷ zs) = refl

counts_gaps : (zs : List ℤ) (a n : ℕ) → a + n < length zs → map (item_count (map nat_of zs)) (span a n) ≡ gaps (to_nat (get_or zs a (pos 0))) (take n (drop (a + 1) zs))
counts_gaps zs a zero h = sym (no_gaps (to_nat (get_or zs a (pos 0))) (drop (a + 1) zs))
counts_gaps zs a (suc n) h =
    let next : suc a ≡ a + 1 = omega arith in
    let more : suc (a + 1) ≡ a + 1 + 1 = omega arith in
    let x = to_nat (get_or zs a (pos 0)) in
    let z = get_or zs (a + 1) (pos 0) in
    let here : get_or (map nat_of zs) (suc a) 0 - get_or (map nat_of zs) a 0 ≡ to_nat z - x = ap₂ (λ b c. b - c) (ap (λ k. get_or (map nat_of zs) k 0) next ∙ nat_at zs (a + 1)) (nat_at zs a) in
    ap₂ (λ b ys. b ∷ ys) here (counts_gaps zs (a + 1) n (omega (arith, h)))
    ∙ ap (gaps x) (sym (ap (take (suc n)) (drop-cons zs (a + 1) (pos 0) (omega (arith, h))) ∙ ap (λ ys. z ∷ ys) (ap (λ k. take n (drop k zs)) more)))

module _ {O : Type 0} (number : O → ℤ) (limit : ℕ) (other : List O) (sound : AreOffsets limit (map number other)) where
  abbrev pub numbers : List ℤ
  numbers = map number other

  ascend : AreOffsetsTo (end_of numbers) (map nat_of numbers)
  ascend = (are_offsets limit (end_of numbers) numbers sound (omega arith)).ascend

  many : length (map nat_of numbers) ≡ length other
  many = length-map numbers nat_of ∙ length-map other number

  pub some_slot : (b : ℕ) → b ≤ pred (length other) → b < length other
  some_slot b h = omega (arith, h, some-offsets limit numbers sound, length-map other number)

  pub offset_number : (i n : ℕ) (x : O) → i < length other → x ≡ get_or other i x → number x ≡ pos n → n ≡ get_or (map nat_of numbers) i 0
  offset_number i n x h e q = sym (nat_at numbers i ∙ ap to_nat (number_read number limit other i x (pos 0) h e ∙ q))

  module _ (a n : ℕ) (within : a + n ≤ pred (length other)) where
    pub slots_rise : get_or (map nat_of numbers) a 0 ≤ get_or (map nat_of numbers) (a + n) 0
    slots_rise = offsets_rise (end_of numbers) (map nat_of numbers) a (a + n) ascend (omega arith) (omega (arith, many, some_slot (a + n) within))

    pub slots_items : flat_map (item_places (map nat_of numbers)) (span a n) ≡ span (get_or (map nat_of numbers) a 0) (get_or (map nat_of numbers) (a + n) 0 - get_or (map nat_of numbers) a 0)
    slots_items = items_slots (end_of numbers) (map nat_of numbers) ascend a n (a + n) refl (omega (arith, many, some_slot (a + n) within))

    pub slots_low : (top : ℕ) → AreOffsetsTo top (map nat_of numbers) → get_or (map nat_of numbers) (a + n) 0 ≤ top
    slots_low top h = offsets_low top (map nat_of numbers) (a + n) h (omega (arith, many, some_slot (a + n) within))

    abbrev pub window : List ℤ
    window = map number (take (n + 1) (drop a other))

    inside : a + n < length numbers
    inside = omega (arith, some_slot (a + n) within, length-map other number)

    window_is : window ≡ take (n + 1) (drop a numbers)
    window_is = sym (ap (take (n + 1)) (drop-map number a other) ∙ take-map number (n + 1) (drop a other))

    window_parts : window ≡ get_or numbers a (pos 0) ∷ take n (drop (a + 1) numbers)
    window_parts =
        let e : n + 1 ≡ suc n = omega arith in
        let next : suc a ≡ a + 1 = omega arith in
        window_is ∙ ap (λ k. take k (drop a numbers)) e ∙ ap (take (suc n)) (drop-cons numbers a (pos 0) (omega (arith, inside))) ∙ ap (λ k. get_or numbers a (pos 0) ∷ take n (drop k numbers)) next

    are : AreOffsets limit window
    are = subst (AreOffsets limit) (sym window_is) (offsets_window limit numbers a n sound inside)

    counted : map (item_count (map nat_of numbers)) (span a n) ≡ gaps (first_of window) (drop 1 window)
    counted = counts_gaps numbers a n inside ∙ ap (λ w. gaps (first_of w) (drop 1 w)) (sym window_parts)

    -- the offsets after the first of a window are as far from `end` as its lists have items
    pub moved_lists : (end : ℕ) → moved (first_of window) end (drop 1 window) ≡ map pos (sums_from end (map (item_count (map nat_of numbers)) (span a n)))
    moved_lists end =
        let e : end + (first_of window - first_of window) ≡ end = omega arith in
        moved_gaps limit (first_of window) end (first_of window) (drop 1 window) (offsets_rest limit window are) (omega arith)
        ∙ ap₂ (λ b ns. map pos (sums_from b ns)) e (sym counted)

    pub moved_count : end_of window - first_of window ≡ sum (map (item_count (map nat_of numbers)) (span a n))
    moved_count =
        let s = gaps_end limit (first_of window) (drop 1 window) (offsets_rest limit window are) in
        omega (arith, s, end_of-rest limit window are, ap sum counted)
