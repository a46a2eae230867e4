-- Windows of offsets, and of the slots between them.
use Rattle.std.proofs.Common.{◌≡◌, Bool, true, false, Option, Some, None, get_or, slice_get, ℕ, zero, suc, ◌+◌, ◌-◌, ◌<◌, ◌≤◌, ℤ, pos, negsuc, List, [], ◌∷◌, map, length, take, drop, ap, sym, ◌∙◌, subst, arith}
use Rattle.std.specs.Prelude.{pred, IsUtf8, IfSome}
use Rattle.std.specs.Str.{IsCharBoundary}
use Rattle.std.proofs.lemmas.Int.{ints}
use Rattle.std.proofs.lemmas.Str.{IsUtf8-between}
use Rattle.std.proofs.lemmas.List.{take-map, drop-map, length-map}
use Rattle.arrow_buffers.specs.Bits.{Bits}
use Rattle.arrow_buffers.specs.Offsets.{Ascend, AreOffsets, first_of, end_from, end_of}
use Rattle.arrow_buffers.proofs.Ascending.{end_reaches}
use Rattle.arrow_buffers.proofs.Windows.{window_again, window_length}
use Rattle.arrow_bytes.specs.Binaries.{Binaries, slot_count, values_between, values_of}
use Rattle.arrow_flat.specs.Pieces.{AreTexts, AreTextsIf}
use Rattle.arrow_flat.specs.Primitives.{MaskHasLength, HasBit}
use Rattle.arrow_flat.proofs.Texts.{texts_window}
use Rattle.arrow_flat.proofs.Pieces.{pieces_count}

pub one_before : (n k : ℕ) → n + 1 ≡ k → n ≡ pred k
one_before n zero h = absurd (omega arith)
one_before n (suc k) h = omega arith

-- the slot of a place, and the two offsets around it
pub offset_after : (n i : ℕ) → i < pred n → i + 1 < n
offset_after zero i l = absurd (omega arith)
offset_after (suc n) i l = omega arith

pub within_count : (n k r : ℕ) → n ≤ pred k → r + 1 ≡ k → n < k
within_count n zero r l h = absurd (omega arith)
within_count n (suc k) r l h = omega arith

ascends : (limit : ℕ) (os : List ℤ) → AreOffsets limit os → Ascend limit (pos 0) os
ascends limit [] h = absurd h
ascends limit (x ∷ os) h = h

pub first_before_end : (limit : ℕ) (os : List ℤ) → AreOffsets limit os → first_of os ≤ end_of os
first_before_end limit [] h = absurd h
first_before_end limit (pos k ∷ os) h = end_reaches limit k os h.2
first_before_end limit (negsuc k ∷ os) h = absurd (let q = h.0 in omega (arith, ints))

end_take : (limit a n : ℕ) (os : List ℤ) → Ascend limit (pos a) os → end_from a (take n os) ≤ end_from a os
end_take limit a zero os h = end_reaches limit a os h
end_take limit a (suc n) [] h = omega arith
end_take limit a (suc n) (pos k ∷ os) h = end_take limit k n os h.2
end_take limit a (suc n) (negsuc k ∷ os) h = absurd (let q = h.0 in omega (arith, ints))

end_window_from : (limit a o n : ℕ) (os : List ℤ) → Ascend limit (pos a) os → end_from 0 (take n (drop o os)) ≤ end_from a os
end_window_from limit a zero zero os h = omega arith
end_window_from limit a zero (suc n) [] h = omega arith
end_window_from limit a zero (suc n) (pos k ∷ os) h = end_take limit k n os h.2
end_window_from limit a zero (suc n) (negsuc k ∷ os) h = absurd (let q = h.0 in omega (arith, ints))
end_window_from limit a (suc o) zero os h = omega arith
end_window_from limit a (suc o) (suc n) [] h = omega arith
end_window_from limit a (suc o) (suc n) (pos k ∷ os) h = end_window_from limit k o (suc n) os h.2
end_window_from limit a (suc o) (suc n) (negsuc k ∷ os) h = absurd (let q = h.0 in omega (arith, ints))

-- the bytes between two places, in a window that holds them
pub part_of_window : (xs : List ℕ) (first last start end : ℕ) → first ≤ start → start ≤ end → end ≤ last
    → take ((end - first) - (start - first)) (drop (start - first) (take (last - first) (drop first xs))) ≡ take (end - start) (drop start xs)
part_of_window xs first last start end f o l =
    let n : (end - first) - (start - first) ≡ end - start = omega arith in
    let s : first + (start - first) ≡ start = omega arith in
    let w = window_again xs first (last - first) (start - first) (end - start) (omega arith) in
    ap (λ k. take k (drop (start - first) (take (last - first) (drop first xs)))) n ∙ sym w ∙ ap (λ k. take (end - start) (drop k xs)) s

pub text_part : (window xs : List ℕ) (first last start end : ℕ) → window ≡ take (last - first) (drop first xs) → IsUtf8 window
    → first ≤ start → start ≤ end → end ≤ last → IsCharBoundary window (start - first) → IsCharBoundary window (end - first)
    → IsUtf8 (take (end - start) (drop start xs))
text_part window xs first last start end same utf8 f o l b e =
    subst IsUtf8 (ap (λ w. take ((end - first) - (start - first)) (drop (start - first) w)) same ∙ part_of_window xs first last start end f o l)
    (IsUtf8-between window (start - first) (end - first) utf8 (omega arith) b e)

module _ {O : Type 0} (number : O → ℤ) where
  -- the last offset of a window is none past the last of all
  pub end_window : (limit o n : ℕ) (os : List O) → AreOffsets limit (map number os) → end_of (map number (take n (drop o os))) ≤ end_of (map number os)
  end_window limit o n os h =
      let e : map number (take n (drop o os)) ≡ take n (drop o (map number os)) =
      sym (take-map number n (drop o os)) ∙ ap (take n) (sym (drop-map number o os)) in
      subst (λ xs. end_of xs ≤ end_of (map number os)) (sym e) (end_window_from limit 0 o n (map number os) (ascends limit (map number os) h))

  pub window_slots : (o n : ℕ) (os : List O) → o + n < length os → pred (length (take (n + 1) (drop o os))) ≡ n
  window_slots o n os h =
      let q : n + 1 ≡ suc n = omega arith in
      ap pred (sym (window_length os o (n + 1) (omega arith)) ∙ q)

  pub values_count : (a : Binaries O) → length (values_of number a) ≡ slot_count a
  values_count a = pieces_count (map number a.offsets) a.values ∙ ap pred (length-map a.offsets number)

  pub fits_values : (a : Binaries O) → MaskHasLength a.mask (slot_count a) → MaskHasLength a.mask (length (values_of number a))
  fits_values a h = subst (MaskHasLength a.mask) (sym (values_count a)) h

  pub slots_count : (os : List O) (xs : List ℕ) (n : ℕ) → n + 1 ≡ length os → length (values_between number os xs) ≡ n
  slots_count os xs n h =
      let q : n + 1 ≡ suc n = omega arith in
      pieces_count (map number os) xs ∙ ap pred (length-map os number ∙ sym h ∙ q)

  pub texts_window_if : (text : Bool) (o n : ℕ) (os : List O) (xs : List ℕ) → AreTextsIf text (values_between number os xs)
      → AreTextsIf text (values_between number (take (n + 1) (drop o os)) xs)
  texts_window_if true o n os xs h = texts_window number o n os xs h
  texts_window_if false o n os xs h = tt

-- ---- the bit of a slot

pub has_bit : (m : Option Bits) (n i : ℕ) → MaskHasLength m n → i < n → HasBit m i
has_bit None n i h l = tt
has_bit (Some b) n i h l = subst (λ k. i < k) (sym h) l

-- ---- single strings

pub text_of_get : (xs : List (List ℕ)) (k : ℕ) → k < length xs → IfSome (slice_get xs k) IsUtf8 → IsUtf8 (get_or xs k [])
text_of_get [] k l h = absurd (omega arith)
text_of_get (x ∷ xs) zero l h = h
text_of_get (x ∷ xs) (suc k) l h = text_of_get xs k (omega arith) h

pub text_if_some : (xs : List (List ℕ)) (k : ℕ) → AreTexts xs → IfSome (slice_get xs k) IsUtf8
text_if_some [] k h = tt
text_if_some (x ∷ xs) zero h = h.0
text_if_some (x ∷ xs) (suc k) h = text_if_some xs k h.1
