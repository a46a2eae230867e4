-- Which ranges of bytes are UTF-8, by the end of the string that each begins in.
use Rattle.std.proofs.Common.{◌≡◌, ℕ, ◌+◌, ◌-◌, ◌<◌, ◌≤◌, List, ◌++◌, length, take, drop, get_or, ap, sym, ◌∙◌, subst, arith, [], ◌∷◌, ⊎_elim}
use Rattle.std.specs.Prelude.{IsUtf8}
use Rattle.std.specs.Str.{IsCharBoundary, IsValidUpTo}
use Rattle.std.proofs.lemmas.Str.{IsUtf8-append, IsUtf8-take}
use Rattle.std.proofs.lemmas.List.{length-drop, length-take-le, get_or-take, get_or-drop, drop-drop, drop-take, take-take, get_or_append_left, get_or_push}
use Rattle.std.proofs.Math.Seq.{take-add}
use Rattle.std.proofs.lemmas.Bool.{cases_lt}
use Rattle.arrow_flat.specs.Natives.{octets}
use Rattle.arrow_views.specs.TextEnds.{IsTextLength, EndsAround, AreTextEnds}
use Rattle.arrow_views.proofs.Borders.{part_text, part_begins, part_ends}

-- the length that `from_utf8` finds
pub valid_length : (bs : List ℕ) (n m : ℕ) → IsValidUpTo bs n → m ≡ n → IsTextLength bs m
valid_length bs n m h e =
    subst (IsTextLength bs) (sym e) record { within = omega (arith, h.short); text = h.front; longest = λ k l w u. h.longest k l u }

module _ (bs : List ℕ) (a b t : ℕ) (h : EndsAround bs a t) (some : a < b) (within : b ≤ length bs) where
  abbrev s : ℕ
  s = h.start

  -- the string around
  abbrev around : List ℕ
  around = take (t - h.start) (drop h.start bs)

  -- the range
  abbrev range : List ℕ
  range = take (b - a) (drop a bs)

  room : t ≤ length bs
  room = omega (arith, length-drop h.start bs, h.string.within, h.before, h.after)

  around_length : length around ≡ t - h.start
  around_length = length-take-le (t - h.start) (drop h.start bs) h.string.within

  at : (i : ℕ) → h.start ≤ i → i < t → get_or around (i - h.start) 0 ≡ get_or bs i 0
  at i l m =
      let q : h.start + (i - h.start) ≡ i = omega arith in
      get_or-take (t - h.start) (drop h.start bs) (i - h.start) 0 (omega arith) ∙ get_or-drop h.start bs (i - h.start) 0 ∙ ap (λ j. get_or bs j 0) q

  border_in : (i : ℕ) → h.start ≤ i → i ≤ t → IsCharBoundary bs i → IsCharBoundary around (i - h.start)
  border_in i l m e = (
    omega (arith, around_length),
    λ k.
        let below : i < t = omega (arith, around_length, k) in
        subst (λ c. 128 ≤ c → 192 ≤ c) (sym (at i l below)) (e.1 (omega (arith, room))),
  )

  border_out : (i : ℕ) → h.start ≤ i → i < t → IsCharBoundary around (i - h.start) → IsCharBoundary bs i
  border_out i l m e =
      (omega (arith, room), λ k. subst (λ c. 128 ≤ c → 192 ≤ c) (at i l m) (e.1 (omega (arith, around_length))))

  inside : b ≤ t → take (b - a) (drop (a - h.start) around) ≡ range
  inside l =
      let q : (a - h.start) + (t - a) ≡ t - h.start = omega (arith, h.before) in
      let o : h.start + (a - h.start) ≡ a = omega (arith, h.before) in
      ap (λ m. take (b - a) (drop (a - h.start) (take m (drop h.start bs)))) (sym q)
      ∙ ap (take (b - a)) (drop-take (a - h.start) (t - a) (drop h.start bs))
      ∙ take-take (b - a) (t - a) (drop (a - h.start) (drop h.start bs)) (omega arith)
      ∙ ap (take (b - a)) (drop-drop (a - h.start) h.start bs ∙ ap (λ i. drop i bs) o)

  begins : IsUtf8 range → IsCharBoundary bs a
  begins u = part_begins bs a (b - a) (omega arith) (omega arith) u

  -- A range that goes on past the end is no string.
  pub not_past : t < b → IsUtf8 range → ⊥
  not_past l u =
      let o : h.start + (a - h.start) ≡ a = omega (arith, h.before) in
      let q : (a - h.start) + (b - a) ≡ b - h.start = omega (arith, h.before) in
      let front : IsUtf8 (take (a - h.start) (drop h.start bs)) =
      subst IsUtf8 (take-take (a - h.start) (t - h.start) (drop h.start bs) (omega (arith, h.after)))
      (IsUtf8-take around (a - h.start) h.string.text (border_in a h.before h.after (begins u))) in
      let joined : take (a - h.start) (drop h.start bs) ++ range ≡ take (b - h.start) (drop h.start bs) =
      ap (λ xs. take (a - h.start) (drop h.start bs) ++ take (b - a) xs) (sym (drop-drop (a - h.start) h.start bs ∙ ap (λ i. drop i bs) o))
      ∙ sym (take-add (a - h.start) (b - a) (drop h.start bs)) ∙ ap (λ m. take m (drop h.start bs)) q in
      h.string.longest (b - h.start) (omega (arith, h.before)) (omega (arith, length-drop h.start bs, h.before))
      (subst IsUtf8 joined (IsUtf8-append (take (a - h.start) (drop h.start bs)) range front u))

  -- Up to the end it is one exactly where it begins and ends between characters.
  ends_in : b ≤ t → IsCharBoundary around (b - h.start) → IsCharBoundary around ((a - h.start) + (b - a))
  ends_in l e = let q : b - h.start ≡ (a - h.start) + (b - a) = omega (arith, h.before) in subst (IsCharBoundary around) q e

  range_text : b ≤ t → IsCharBoundary bs a → IsCharBoundary around (b - h.start) → IsUtf8 range
  range_text l c e =
      subst IsUtf8 (inside l) (part_text around (a - h.start) (b - a) h.string.text (border_in a h.before (omega arith) c) (ends_in l e))

  pub text_to_end : b ≡ t → IsCharBoundary bs a → IsUtf8 range
  text_to_end e c = range_text (omega arith) c (omega (arith, around_length), λ k. absurd (omega (arith, around_length, k)))

  pub text_before : b < t → IsCharBoundary bs a → IsCharBoundary bs b → IsUtf8 range
  text_before l c e = range_text (omega arith) c (border_in b (omega (arith, h.before)) (omega arith) e)

  pub text_begins : IsUtf8 range → IsCharBoundary bs a
  text_begins u = begins u

  pub text_ends : b < t → IsUtf8 range → IsCharBoundary bs b
  text_ends l u =
      let part : IsUtf8 (take (b - a) (drop (a - h.start) around)) = subst IsUtf8 (sym (inside (omega arith))) u in
      let q : (a - h.start) + (b - a) ≡ b - h.start = omega (arith, h.before) in
      border_out b (omega (arith, h.before)) l
      (subst (IsCharBoundary around) q
      (part_ends around (a - h.start) (b - a) (omega arith) (omega (arith, around_length, h.before)) h.string.text part))

-- The ends of one buffer more.
pub ends_push : (raw ends : List (List ℕ)) (n : ℕ) (e : List ℕ) → length ends ≡ n → ((k : ℕ) → k < n → AreTextEnds (octets (get_or raw k [])) (get_or ends k []))
    → AreTextEnds (octets (get_or raw n [])) e → (k : ℕ) → k < n + 1 → AreTextEnds (octets (get_or raw k [])) (get_or (ends ++ e ∷ []) k [])
ends_push raw ends n e many h t k l =
    ⊎_elim (λ m. subst (AreTextEnds (octets (get_or raw k []))) (sym (get_or_append_left ends (e ∷ []) [] k (omega arith))) (h k m))
    (λ m.
    let q : n ≡ k = omega arith in
    subst (AreTextEnds (octets (get_or raw k []))) (sym (get_or_push ends e [] k (omega arith))) (subst (λ j. AreTextEnds (octets (get_or raw j [])) e) q t))
    (cases_lt k n)
