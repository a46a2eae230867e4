-- Binary values that follow one another, and parts of those of an array.
use Rattle.std.proofs.Common.{◌≡◌, ℕ, zero, suc, ◌+◌, ◌-◌, ◌<◌, ◌≤◌, ℤ, pos, negsuc, Bool, true, false, cond, List, [], ◌∷◌, ◌++◌, map, length, take, drop, get_or, slice_get, Ok, Err, sum, replicate, append-nil, append_assoc, Option, Some, None, refl, ap, ap₂, sym, ◌∙◌, subst, arith, length-append}
use Rattle.std.specs.List.{concat}
use Rattle.std.specs.Prelude.{pred, IsUtf8, Result, IsErrAnd, IfErr, OnErr}
use Rattle.std.proofs.lemmas.Int.{ints}
use Rattle.std.proofs.lemmas.List.{map-append, map-id, length-map, take-map, take_all, length-take-le, length-drop, drop-drop, take_more, get_or-drop, replicate-append-replicate}
use Rattle.std.proofs.lemmas.List.Concat.{concat_is}
use Rattle.std.proofs.lemmas.List.Folds.{concat-append}
use Rattle.std.proofs.lemmas.List.Sums.{sum_by-cons}
use Rattle.std.proofs.lemmas.Str.{IsUtf8-nil}
use Rattle.std.proofs.Math.Bool.{beq}
use Rattle.std.proofs.Math.Seq.{take-add, take-append_seam}
use Rattle.arrow_buffers.specs.Bits.{Bits}
use Rattle.arrow_buffers.specs.Offsets.{AreOffsets, Ascend, to_nat, first_of, end_from, end_of, moved}
use Rattle.arrow_types.specs.declared.error.GrowError.{GrowError}
use Rattle.arrow_types.specs.declared.error.GrowError.TheVariants as error
use Rattle.arrow_bytes.specs.Binaries.{Binaries, slot_count, values_between, values_of}
use Rattle.arrow_flat.specs.Pieces.{pieces, pieces_from, AreTexts, AreTextsIf}
use Rattle.arrow_flat.proofs.Pieces.{pieces_count}
use Rattle.arrow_flat.proofs.Lists.{all_drop, all_take, all_join}
use Rattle.arrow_layout.specs.Canon.{sums_from, offsets}
use Rattle.arrow_layout.specs.Cut.{part}
use Rattle.arrow_layout.specs.Layouts.{length_of}
use Rattle.arrow_layout.specs.WellFormed.{WellFormed, AreOffsetsTo, AscendTo}
use Rattle.arrow_layout.proofs.CutForms.{cut_well_formed, length-part}
use Rattle.arrow_layout.proofs.Cuts.{part-pieces}
use Rattle.arrow_layout.proofs.Pieces.{pieces_joined}
use Rattle.arrow_meaning.specs.Nodes.{binary_layout}
use Rattle.arrow_meaning.proofs.Octets.{octets_count}
use Rattle.arrow_grow_flat.specs.Spans.{AppendsValues, AreJoined, empty_at_nulls, empty_at_unset, EndRefused, IsPrefixOf, slot_values}
use Rattle.arrow_grow_flat.proofs.SourceSlots.{part-map}

-- ---- sums of lengths

sum_cons : (n : ℕ) (ns : List ℕ) → sum (n ∷ ns) ≡ n + sum ns
sum_cons n ns = sum_by-cons (λ x. x) n ns

sums_join : (a : ℕ) (ns ms : List ℕ) → sums_from a (ns ++ ms) ≡ sums_from a ns ++ sums_from (a + sum ns) ms
sums_join a [] ms = let e : a + 0 ≡ a = omega arith in sym (ap (λ k. sums_from k ms) e)
sums_join a (n ∷ ns) ms =
    let e : (a + n) + sum ns ≡ a + sum (n ∷ ns) = omega (arith, sum_cons n ns) in
    ap (λ xs. (a + n) ∷ xs) (sums_join (a + n) ns ms ∙ ap (λ k. sums_from (a + n) ns ++ sums_from k ms) e)

end_sums : (a : ℕ) (ns : List ℕ) → end_from a (map pos (sums_from a ns)) ≡ a + sum ns
end_sums a [] = omega arith
end_sums a (n ∷ ns) = let e : (a + n) + sum ns ≡ a + sum (n ∷ ns) = omega (arith, sum_cons n ns) in end_sums (a + n) ns ∙ e

sum_lengths : (xs : List (List ℕ)) → sum (map length xs) ≡ length (concat xs)
sum_lengths [] = refl
sum_lengths (x ∷ xs) = sum_cons (length x) (map length xs) ∙ ap (λ n. length x + n) (sum_lengths xs) ∙ sym (length-append x (concat xs))

pub joined_join : (xs ys : List (List ℕ)) → concat (xs ++ ys) ≡ concat xs ++ concat ys
joined_join xs ys = concat-append xs ys

pub length-joined : (xs ys : List (List ℕ)) → length (concat (xs ++ ys)) ≡ length (concat xs) + length (concat ys)
length-joined xs ys = ap length (joined_join xs ys) ∙ length-append (concat xs) (concat ys)

-- ---- values that are appended

module _ {O : Type 0} (number : O → ℤ) (os : List O) (bs : List ℕ) (follow : AreJoined number os bs) where
  abbrev whole : List (List ℕ)
  whole = values_between number os bs

  sums_end : end_of (map number os) ≡ 0 + sum (map length whole)
  sums_end = ap end_of follow.ends ∙ end_sums 0 (map length whole)

  -- the last offset is the count of bytes
  pub end_is : end_of (map number os) ≡ length bs
  end_is =
      let e : 0 + sum (map length whole) ≡ sum (map length whole) = omega arith in
      sums_end ∙ e ∙ sum_lengths whole ∙ ap length (sym follow.bytes)

  pub appended : (ps : List O) (cs : List ℕ) (ys : List (List ℕ)) → map number ps ≡ map number os ++ map pos (sums_from (end_of (map number os)) (map length ys)) → cs ≡ bs ++ concat ys
      → AppendsValues number os bs ys ps cs
  appended ps cs ys e h =
      let ns = map length whole in
      let ms = map length ys in
      let front : map number ps ≡ offsets ns ++ map pos (sums_from (0 + sum ns) ms) =
      e ∙ ap₂ (λ zs k. zs ++ map pos (sums_from k ms)) follow.ends sums_end in
      let all : offsets (map length (whole ++ ys)) ≡ offsets ns ++ map pos (sums_from (0 + sum ns) ms) =
      ap offsets (map-append length whole ys) ∙ ap (λ zs. pos 0 ∷ map pos zs) (sums_join 0 ns ms) ∙ ap (λ zs. pos 0 ∷ zs) (map-append pos (sums_from 0 ns) (sums_from (0 + sum ns) ms)) in
      let ends : map number ps ≡ offsets (map length (whole ++ ys)) = front ∙ sym all in
      let bytes : cs ≡ concat (whole ++ ys) = h ∙ ap (λ zs. zs ++ concat ys) follow.bytes ∙ sym (joined_join whole ys) in
      let values : values_between number ps cs ≡ whole ++ ys =
      ap (λ zs. pieces (map to_nat zs) cs) ends ∙ ap (pieces (map to_nat (offsets (map length (whole ++ ys))))) bytes ∙ ap (pieces (map to_nat (offsets (map length (whole ++ ys))))) (concat_is (whole ++ ys)) ∙ pieces_joined (λ x. x) (whole ++ ys) ∙ map-id (whole ++ ys) in
      record {
        follow = record { ends = ends ∙ ap (λ zs. offsets (map length zs)) (sym values); bytes = bytes ∙ ap concat (sym values) };
        values = values;
      }

  -- nothing appended
  pub appended_none : AppendsValues number os bs [] os bs
  appended_none = record { follow = follow; values = sym (append-nil whole) }

  abbrev blanks : ℕ → List (List ℕ)
  blanks n = replicate n []

  empty_lengths : (n : ℕ) → map length (blanks n) ≡ replicate n 0
  empty_lengths zero = refl
  empty_lengths (suc n) = ap (λ zs. 0 ∷ zs) (empty_lengths n)

  equal_sums : (a n : ℕ) → replicate n (pos a) ≡ map pos (sums_from a (replicate n 0))
  equal_sums a zero = refl
  equal_sums a (suc n) =
      let e : a + 0 ≡ a = omega arith in
      ap₂ (λ z zs. z ∷ zs) (sym (ap pos e)) (equal_sums a n ∙ sym (ap (λ k. map pos (sums_from k (replicate n 0))) e))

  empty_joined : (n : ℕ) → ◌≡◌ {A = List ℕ} (concat (replicate n [])) []
  empty_joined zero = refl
  empty_joined (suc n) = empty_joined n

  pub appended_empty : (n : ℕ) (ps : List O) → map number ps ≡ map number os ++ replicate n (pos (end_of (map number os))) → AppendsValues number os bs (replicate n []) ps bs
  appended_empty n ps e =
      appended ps bs (replicate n []) (e ∙ ap (λ zs. map number os ++ zs) (equal_sums (end_of (map number os)) n ∙ ap (λ zs. map pos (sums_from (end_of (map number os)) zs)) (sym (empty_lengths n))))
      (sym (ap (λ zs. bs ++ zs) (empty_joined n) ∙ append-nil bs))

pub appended_again : {O : Type 0} (number : O → ℤ) (os ps qs : List O) (bs cs ds : List ℕ) (ys zs : List (List ℕ)) → AppendsValues number os bs ys ps cs → AppendsValues number ps cs zs qs ds
    → AppendsValues number os bs (ys ++ zs) qs ds
appended_again number os ps qs bs cs ds ys zs a b =
    record { follow = b.follow; values = b.values ∙ ap (λ xs. xs ++ zs) a.values ∙ append_assoc (values_between number os bs) ys zs }

-- how many bytes there are then
pub appended_length : {O : Type 0} (number : O → ℤ) (os ps : List O) (bs cs : List ℕ) (ys : List (List ℕ)) → AreJoined number os bs → AppendsValues number os bs ys ps cs → length cs ≡ length bs + length (concat ys)
appended_length number os ps bs cs ys f a =
    ap length a.follow.bytes ∙ ap (λ xs. length (concat xs)) a.values ∙ length-joined (values_between number os bs) ys ∙ ap (λ xs. length xs + length (concat ys)) (sym f.bytes)

-- ---- lists that start with others

pub starts_itself : {A : Type 0} (xs : List A) → IsPrefixOf xs xs
starts_itself xs = take_all (length xs) xs (omega arith)

pub starts_longer : {A : Type 0} (xs ys tail : List A) → ys ≡ xs ++ tail → IsPrefixOf xs ys
starts_longer xs ys tail e = ap (take (length xs)) e ∙ take-append_seam xs tail

take_less : {A : Type 0} (n m : ℕ) (xs : List A) → n ≤ m → take n (take m xs) ≡ take n xs
take_less zero m xs h = refl
take_less (suc n) zero xs h = absurd (omega (arith, h))
take_less (suc n) (suc m) [] h = refl
take_less (suc n) (suc m) (x ∷ xs) h = ap (λ ys. x ∷ ys) (take_less n m xs (omega (arith, h)))

take_short : {A : Type 0} (n : ℕ) (xs : List A) → length (take n xs) ≤ length xs
take_short zero xs = omega arith
take_short (suc n) [] = omega arith
take_short (suc n) (x ∷ xs) = omega (arith, take_short n xs)

pub starts_again : {A : Type 0} (xs ys zs : List A) → IsPrefixOf xs ys → IsPrefixOf ys zs → IsPrefixOf xs zs
starts_again xs ys zs h k =
    let short : length xs ≤ length ys = omega (arith, ap length h, take_short (length xs) ys) in
    sym (take_less (length xs) (length ys) zs short) ∙ ap (take (length xs)) k ∙ h

pub on_err : {A E : Type 0} (r : Result A E) {P : Type 0} → P → OnErr r P
on_err (Ok x) p = tt
on_err (Err e) p = p

-- the front of a longer list is what was there
pub starts_back : {O : Type 0} (number : O → ℤ) (os cur new : List O) (k : ℕ) → k ≡ length os → IsPrefixOf (map number os) (map number cur) → new ≡ take k cur → map number new ≡ map number os
starts_back number os cur new k e h t =
    ap (map number) t ∙ sym (take-map number k cur) ∙ ap (λ n. take n (map number cur)) (e ∙ sym (length-map os number)) ∙ h

-- ---- the bytes between offsets

abbrev end_nat : ℕ → List ℕ → ℕ
end_nat a [] = a
end_nat a (b ∷ os) = end_nat b os

end_top : (top a : ℕ) (os : List ℕ) → AscendTo top a os → (a ≤ end_nat a os) × (end_nat a os ≤ top)
end_top top a [] h = (omega arith, h)
end_top top a (b ∷ os) h = let q = end_top top b os h.1 in (omega (arith, h.0, q.0), q.1)

from_joined : (a : ℕ) (os bs : List ℕ) → AscendTo (length bs) a os → concat (pieces_from a os bs) ≡ take (end_nat a os - a) (drop a bs)
from_joined a [] bs h = let e : a - a ≡ 0 = omega arith in sym (ap (λ n. take n (drop a bs)) e)
from_joined a (b ∷ os) bs h =
    let q = end_top (length bs) b os h.1 in
    let n : end_nat b os - a ≡ (b - a) + (end_nat b os - b) = omega (arith, h.0, q.0) in
    let m : (b - a) + a ≡ b = omega (arith, h.0) in
    let k : a + (b - a) ≡ b = omega (arith, h.0) in
    ap (λ zs. take (b - a) (drop a bs) ++ zs) (from_joined b os bs h.1 ∙ ap (take (end_nat b os - b)) (sym (dropped a (b - a) b bs m k)))
    ∙ sym (take-add (b - a) (end_nat b os - b) (drop a bs)) ∙ sym (ap (λ j. take j (drop a bs)) n)
  where
    dropped : (a n b : ℕ) (bs : List ℕ) → n + a ≡ b → a + n ≡ b → drop n (drop a bs) ≡ drop b bs
    dropped a n b bs m k = drop-drop n a bs ∙ ap (λ j. drop j bs) k

from_lengths : (first to a : ℕ) (zs : List ℤ) (bs : List ℕ) → first ≤ a → AscendTo (length bs) a (map to_nat zs)
    → moved first to zs ≡ map pos (sums_from (to + (a - first)) (map length (pieces_from a (map to_nat zs) bs)))
from_lengths first to a [] bs l h = refl
from_lengths first to a (z ∷ zs) bs l h =
    let b = to_nat z in
    let q = end_top (length bs) b (map to_nat zs) h.1 in
    let size : length (take (b - a) (drop a bs)) ≡ b - a = length-take-le (b - a) (drop a bs) (omega (arith, length-drop a bs, q.0, q.1, h.0)) in
    let e : to + (b - first) ≡ (to + (a - first)) + length (take (b - a) (drop a bs)) = omega (arith, size, l, h.0) in
    ap₂ (λ n ns. pos n ∷ ns) e
    (from_lengths first to b zs bs (omega (arith, l, h.0)) h.1 ∙ ap (λ n. map pos (sums_from n (map length (pieces_from b (map to_nat zs) bs)))) e)

end_numbers : (n : ℕ) (zs : List ℤ) → end_from n zs ≡ end_nat n (map to_nat zs)
end_numbers n [] = refl
end_numbers n (z ∷ zs) = end_numbers (to_nat z) zs

-- ---- a window of offsets

pub window_joined : (w : List ℤ) (bs : List ℕ) → AreOffsetsTo (length bs) (map to_nat w) → concat (pieces (map to_nat w) bs) ≡ take (end_of w - first_of w) (drop (first_of w) bs)
window_joined [] bs h = absurd h
window_joined (z ∷ zs) bs h =
    from_joined (to_nat z) (map to_nat zs) bs h ∙ ap (λ e. take (e - to_nat z) (drop (to_nat z) bs)) (sym (end_numbers (to_nat z) zs))

pub window_within : (w : List ℤ) (top : ℕ) → AreOffsetsTo top (map to_nat w) → (first_of w ≤ end_of w) × (end_of w ≤ top)
window_within [] top h = absurd h
window_within (z ∷ zs) top h =
    subst (λ e. (to_nat z ≤ e) × (e ≤ top)) (sym (end_numbers (to_nat z) zs)) (end_top top (to_nat z) (map to_nat zs) h)

window_length : (w : List ℤ) (bs : List ℕ) → AreOffsetsTo (length bs) (map to_nat w) → length (concat (pieces (map to_nat w) bs)) ≡ end_of w - first_of w
window_length w bs h =
    let q = window_within w (length bs) h in
    ap length (window_joined w bs h) ∙ length-take-le (end_of w - first_of w) (drop (first_of w) bs) (omega (arith, q.0, q.1, length-drop (first_of w) bs))

window_moved : (w : List ℤ) (to : ℕ) (bs : List ℕ) → AreOffsetsTo (length bs) (map to_nat w) → moved (first_of w) to (drop 1 w) ≡ map pos (sums_from to (map length (pieces (map to_nat w) bs)))
window_moved [] to bs h = absurd h
window_moved (z ∷ zs) to bs h =
    let e : to + (to_nat z - to_nat z) ≡ to = omega arith in
    from_lengths (to_nat z) to (to_nat z) zs bs (omega arith) h ∙ ap (λ n. map pos (sums_from n (map length (pieces_from (to_nat z) (map to_nat zs) bs)))) e

end_last : (n : ℕ) (ws : List ℤ) (d e : ℕ) → slice_get ws n ≡ Some (pos e) → end_from d (take (suc n) ws) ≡ e
end_last n [] d e h = absurd (cc)
end_last zero (z ∷ ws) d e h = let q : z ≡ pos e = cc in ap to_nat q
end_last (suc n) (z ∷ ws) d e h = end_last n ws (to_nat z) e h

pub window_end : (o n i : ℕ) (ws : List ℤ) (e : ℕ) → o + n ≡ i → slice_get ws i ≡ Some (pos e) → end_of (part o (suc n) ws) ≡ e
window_end zero n i ws e k h = let q : i ≡ n = omega (arith, k) in end_last n ws 0 e (sym (ap (slice_get ws) q) ∙ h)
window_end (suc o) n i [] e k h = absurd (cc)
window_end (suc o) n zero (z ∷ ws) e k h = absurd (omega (arith, k))
window_end (suc o) n (suc i) (z ∷ ws) e k h = window_end o n i ws e (omega (arith, k)) h

pub window_first : (o n : ℕ) (ws : List ℤ) (a : ℕ) → slice_get ws o ≡ Some (pos a) → first_of (part o (suc n) ws) ≡ a
window_first zero n [] a h = absurd (cc)
window_first zero n (z ∷ ws) a h = let q : z ≡ pos a = cc in ap to_nat q
window_first (suc o) n [] a h = absurd (cc)
window_first (suc o) n (z ∷ ws) a h = window_first o n ws a h

-- ---- a run of the values of an array

module _ {O : Type 0} (number : O → ℤ) (a : Binaries O) (w : WellFormed (binary_layout number a)) (o n : ℕ) (reached : o + n ≤ slot_count a) where
  abbrev pub window : List ℤ
  window = part o (suc n) (map number a.offsets)

  ascends : AreOffsetsTo (length a.values) (map to_nat window)
  ascends =
      let inside : o + n ≤ length_of (binary_layout number a) = omega (arith, reached, ap pred (length-map a.offsets number)) in
      let c = cut_well_formed (binary_layout number a) o n w inside in
      subst (λ top. AreOffsetsTo top (map to_nat window)) (octets_count a.values) c.1.ascend

  slots : pieces (map to_nat window) a.values ≡ part o n (values_of number a)
  slots = ap (λ ns. pieces ns a.values) (sym (part-map to_nat o (suc n) (map number a.offsets))) ∙ part-pieces o n (map to_nat (map number a.offsets)) a.values

  window_is : map number (take (n + 1) (drop o a.offsets)) ≡ window
  window_is = let e : n + 1 ≡ suc n = omega arith in ap (λ k. map number (take k (drop o a.offsets))) e ∙ sym (part-map number o (suc n) a.offsets)

  pub span_begins : (os : List O) (r : ℕ) → os ≡ a.offsets → slice_get (map number os) o ≡ Some (pos r) → first_of window ≡ r
  span_begins os r e h = window_first o n (map number a.offsets) r (sym (ap (λ ps. slice_get (map number ps) o) e) ∙ h)

  pub span_ends : (os : List O) (r last : ℕ) → os ≡ a.offsets → o + n ≡ last → slice_get (map number os) last ≡ Some (pos r) → end_of window ≡ r
  span_ends os r last e k h = window_end o n last (map number a.offsets) r k (sym (ap (λ ps. slice_get (map number ps) last) e) ∙ h)

  run_bytes : concat (part o n (values_of number a)) ≡ take (end_of window - first_of window) (drop (first_of window) a.values)
  run_bytes = ap concat (sym slots) ∙ window_joined window a.values ascends

  pub run_within : (first_of window ≤ end_of window) × (end_of window ≤ length a.values)
  run_within = window_within window (length a.values) ascends

  pub span_bytes : (cs : List ℕ) (from to : ℕ) → cs ≡ a.values → first_of window ≡ from → end_of window ≡ to → take (to - from) (drop from cs) ≡ concat (part o n (values_of number a))
  span_bytes cs from to e h k =
      ap (λ xs. take (to - from) (drop from xs)) e ∙ sym (ap₂ (λ i j. take (j - i) (drop i a.values)) h k) ∙ sym run_bytes

  module _ (os ps : List O) (bs : List ℕ) (follow : AreJoined number os bs) where
    abbrev given : List ℤ
    given = map number (take (n + 1) (drop o a.offsets))

    pub run_appended : (cs : List ℕ) → map number ps ≡ map number os ++ moved (first_of given) (end_of (map number os)) (drop 1 given) → cs ≡ bs ++ concat (part o n (values_of number a))
        → AppendsValues number os bs (part o n (values_of number a)) ps cs
    run_appended cs e h =
        let to = end_of (map number os) in
        appended number os bs follow ps cs (part o n (values_of number a))
        (e ∙ ap (λ zs. map number os ++ moved (first_of zs) to (drop 1 zs)) window_is
        ∙ ap (λ zs. map number os ++ zs) (window_moved window to a.values ascends ∙ ap (λ zs. map pos (sums_from to (map length zs))) slots))
        h

    pub run_refused : end_of (map number os) + (end_of given - first_of given) ≡ length bs + length (concat (part o n (values_of number a)))
    run_refused =
        ap₂ (λ m k. m + k) (end_is number os bs follow)
        (ap (λ zs. end_of zs - first_of zs) window_is ∙ sym (window_length window a.values ascends) ∙ ap (λ zs. length (concat zs)) slots)

pub slots_counted : {O : Type 0} (number : O → ℤ) (a : Binaries O) → length (values_of number a) ≡ slot_count a
slots_counted number a = pieces_count (map number a.offsets) a.values ∙ ap pred (length-map a.offsets number)

-- ---- a run of equal bits

pub same_bit : (a b : Bool) → beq a b ≡ true → a ≡ b
same_bit true true e = refl
same_bit false false e = refl
same_bit true false e = cc
same_bit false true e = cc

pub equal_more : (bits : List Bool) (o to : ℕ) (bit : Bool) → o < to → to < length bits → part o (to - o) bits ≡ replicate (to - o) bit → get_or bits to false ≡ bit
    → part o (to + 1 - o) bits ≡ replicate (to + 1 - o) bit
equal_more bits o to bit l h e k =
    let n : to + 1 - o ≡ (to - o) + 1 = omega (arith, l) in
    let at : o + (to - o) ≡ to = omega (arith, l) in
    ap (λ j. part o j bits) n
    ∙ take_more (drop o bits) (to - o) false (omega (arith, l, h, length-drop o bits))
    ∙ ap₂ (λ xs b. xs ++ b ∷ []) e (get_or-drop o bits (to - o) false ∙ ap (λ j. get_or bits j false) at ∙ k)
    ∙ replicate-append-replicate (to - o) 1 bit ∙ sym (ap (λ j. replicate j bit) n)

-- ---- values that are empty_at_nulls by a mask

emptied_drop : (o : ℕ) (bits : List Bool) (xs : List (List ℕ)) → drop o (empty_at_unset bits xs) ≡ empty_at_unset (drop o bits) (drop o xs)
emptied_drop zero bits xs = refl
emptied_drop (suc o) [] [] = refl
emptied_drop (suc o) [] (x ∷ xs) = refl
emptied_drop (suc o) (b ∷ bits) [] = by (drop o bits)
  where
    by : (cs : List Bool) → [] ≡ empty_at_unset cs []
    by [] = refl
    by (c ∷ cs) = refl
emptied_drop (suc o) (b ∷ bits) (x ∷ xs) = emptied_drop o bits xs

emptied_take : (n : ℕ) (bits : List Bool) (xs : List (List ℕ)) → take n (empty_at_unset bits xs) ≡ empty_at_unset (take n bits) (take n xs)
emptied_take zero bits xs = refl
emptied_take (suc n) [] [] = refl
emptied_take (suc n) [] (x ∷ xs) = refl
emptied_take (suc n) (b ∷ bits) [] = refl
emptied_take (suc n) (b ∷ bits) (x ∷ xs) = ap (λ ys. cond b x [] ∷ ys) (emptied_take n bits xs)

emptied_part : (o n : ℕ) (bits : List Bool) (xs : List (List ℕ)) → part o n (empty_at_unset bits xs) ≡ empty_at_unset (part o n bits) (part o n xs)
emptied_part o n bits xs = ap (take n) (emptied_drop o bits xs) ∙ emptied_take n (drop o bits) (drop o xs)

all_kept : (n : ℕ) (xs : List (List ℕ)) → empty_at_unset (replicate n true) xs ≡ xs
all_kept zero xs = refl
all_kept (suc n) [] = refl
all_kept (suc n) (x ∷ xs) = ap (λ ys. x ∷ ys) (all_kept n xs)

none_kept : (n : ℕ) (xs : List (List ℕ)) → length xs ≡ n → empty_at_unset (replicate n false) xs ≡ replicate n []
none_kept zero [] e = refl
none_kept zero (x ∷ xs) e = absurd (omega (arith, e))
none_kept (suc n) [] e = absurd (omega (arith, e))
none_kept (suc n) (x ∷ xs) e = ap (λ ys. [] ∷ ys) (none_kept n xs (omega (arith, e)))

module _ {O : Type 0} (number : O → ℤ) (a : Binaries O) (b : Bits) (masked : a.mask ≡ Some b) (o n : ℕ) where
  in_mask : part o n (slot_values number a) ≡ empty_at_unset (part o n b.bits) (part o n (values_of number a))
  in_mask = ap (λ m. part o n (empty_at_nulls m (values_of number a))) masked ∙ emptied_part o n b.bits (values_of number a)

  pub run_kept : part o n b.bits ≡ replicate n true → part o n (slot_values number a) ≡ part o n (values_of number a)
  run_kept e = in_mask ∙ ap (λ bits. empty_at_unset bits (part o n (values_of number a))) e ∙ all_kept n (part o n (values_of number a))

  pub run_emptied : part o n b.bits ≡ replicate n false → o + n ≤ length (values_of number a) → part o n (slot_values number a) ≡ replicate n []
  run_emptied e h =
      in_mask ∙ ap (λ bits. empty_at_unset bits (part o n (values_of number a))) e ∙ none_kept n (part o n (values_of number a)) (length-part o n (values_of number a) h)

-- ---- parts one after another

pub part_join : {A : Type 0} (i j k : ℕ) (xs : List A) → i ≤ j → j ≤ k → part i (j - i) xs ++ part j (k - j) xs ≡ part i (k - i) xs
part_join i j k xs h l =
    let n : k - i ≡ (j - i) + (k - j) = omega (arith, h, l) in
    let m : i + (j - i) ≡ j = omega (arith, h) in
    ap (λ ys. take (j - i) (drop i xs) ++ take (k - j) ys) (sym (drop-drop (j - i) i xs ∙ ap (λ d. drop d xs) m))
    ∙ sym (take-add (j - i) (k - j) (drop i xs)) ∙ sym (ap (λ d. take d (drop i xs)) n)

-- a front of the slots has no more bytes
pub part_bytes : (i j k : ℕ) (xs : List (List ℕ)) → i ≤ j → j ≤ k → length (concat (part i (k - i) xs)) ≡ length (concat (part i (j - i) xs)) + length (concat (part j (k - j) xs))
part_bytes i j k xs h l = sym (ap (λ zs. length (concat zs)) (part_join i j k xs h l)) ∙ length-joined (part i (j - i) xs) (part j (k - j) xs)

pub refused_later : (limit n m : ℕ) (e : GrowError) → n ≤ m → EndRefused limit n e → EndRefused limit m e
refused_later limit n m error.Overflow h r = omega (arith, h, r)
refused_later limit n m error.OutOfMemory h r = tt

pub refused_as : {A : Type 0} (r : Result A GrowError) (e : GrowError) (limit n : ℕ) → IsErrAnd r (λ y. y ≡ e) → EndRefused limit n e → IfErr r (EndRefused limit n)
refused_as (Ok x) e limit n h k = absurd h
refused_as (Err y) e limit n h k = subst (EndRefused limit n) (sym h) k

-- ---- texts stay texts

pub emptied_texts : (text : Bool) (m : Option Bits) (xs : List (List ℕ)) → AreTextsIf text xs → AreTextsIf text (empty_at_nulls m xs)
emptied_texts false m xs h = tt
emptied_texts true None xs h = h
emptied_texts true (Some b) xs h = by b.bits xs h
  where
    one : (bit : Bool) (x : List ℕ) → IsUtf8 x → IsUtf8 (cond bit x [])
    one true x h = h
    one false x h = IsUtf8-nil

    by : (bits : List Bool) (xs : List (List ℕ)) → AreTexts xs → AreTexts (empty_at_unset bits xs)
    by [] xs h = h
    by (bit ∷ bits) [] h = tt
    by (bit ∷ bits) (x ∷ xs) h = (one bit x h.0, by bits xs h.1)

pub part_texts : (text : Bool) (o n : ℕ) (xs : List (List ℕ)) → AreTextsIf text xs → AreTextsIf text (part o n xs)
part_texts false o n xs h = tt
part_texts true o n xs h = all_take IsUtf8 n (drop o xs) (all_drop IsUtf8 o xs h)

pub join_texts : (text : Bool) (xs ys : List (List ℕ)) → AreTextsIf text xs → AreTextsIf text ys → AreTextsIf text (xs ++ ys)
join_texts false xs ys h k = tt
join_texts true xs ys h k = all_join IsUtf8 xs ys h k

pub empty_texts : (text : Bool) (n : ℕ) → AreTextsIf text (replicate n [])
empty_texts false n = tt
empty_texts true zero = tt
empty_texts true (suc n) = (IsUtf8-nil, empty_texts true n)

-- ---- the last offset is below the limit

end_from_below : (limit d : ℕ) (x : ℤ) (os : List ℤ) → d < limit → Ascend limit x os → end_from d os < limit
end_from_below limit d x [] h k = h
end_from_below limit d x (pos z ∷ os) h k = end_from_below limit z (pos z) os (let q = k.1 in omega (arith, ints)) k.2
end_from_below limit d x (negsuc z ∷ os) h k = end_from_below limit 0 (negsuc z) os (omega (arith, h)) k.2

pub end_below : (limit : ℕ) (os : List ℤ) → AreOffsets limit os → end_of os < limit
end_below limit [] h = absurd h
end_below limit (pos z ∷ os) h = end_from_below limit z (pos z) os (let q = h.1 in omega (arith, ints)) h.2
end_below limit (negsuc z ∷ os) h = absurd (let q = h.0 in omega (arith, ints))
