-- The bytes of picked slots one after another, and their lengths, run by run and slot by slot.
use Rattle.std.proofs.Common.{◌≡◌, ℕ, zero, suc, ◌+◌, ◌-◌, ◌*◌, ◌≤◌, ◌<◌, List, [], ◌∷◌, ◌++◌, length, take, get_or, slice_get, replicate, append_assoc, append-nil, refl, ap, sym, ◌∙◌, arith, Option, Some, None}
use Rattle.std.specs.Prelude.{unwrap_or}
use Rattle.std.proofs.lemmas.Grind.{flat_map-append}
use Rattle.std.proofs.lemmas.List.{map-append}
use Rattle.std.proofs.lemmas.List.FromFn.{map-range_with_len_more}
use Rattle.std.proofs.lemmas.Option.{get_or_from_slice_get}
use Rattle.arrow_canon.specs.Picks.{pick, picks, span}
use Rattle.arrow_canon.specs.Runs.{places, places_of}
use Rattle.arrow_canon.specs.Steps.{concatenated, lengths}
use Rattle.arrow_canon.specs.declared.run.Run.{Run}
use Rattle.arrow_canon.proofs.Places.{places_step, picks_fill}

-- what is made of a list in order, so that it can be made part by part
module _ {A B : Type 0} (d : A) (s : List A) (made : List A → List B) (parts : (xs ys : List A) → made (xs ++ ys) ≡ made xs ++ made ys) where
  picks_more : (ps qs : List (Option ℕ)) → made (picks d s (ps ++ qs)) ≡ made (picks d s ps) ++ made (picks d s qs)
  picks_more ps qs = ap made (map-append (pick d s) ps qs) ∙ parts (picks d s ps) (picks d s qs)

  run_step : (rs : List Run) (i : ℕ) (r : Run) → i < length rs
      → made (picks d s (places (take i rs))) ++ made (picks d s (places_of (get_or rs i r))) ≡ made (picks d s (places (take (i + 1) rs)))
  run_step rs i r h = sym (ap (λ ps. made (picks d s ps)) (places_step rs i r h) ∙ picks_more (places (take i rs)) (places_of (get_or rs i r)))

  slot_step : (bs : List B) (a i : ℕ) (x : A) → a ≤ i → slice_get s i ≡ Some x
      → (bs ++ made (picks d s (span a (i - a)))) ++ made (x ∷ []) ≡ bs ++ made (picks d s (span a (i + 1 - a)))
  slot_step bs a i x h e =
      let n : i + 1 - a ≡ i - a + 1 = omega (arith, h) in
      let at : get_or s i d ≡ x = get_or_from_slice_get s i x d e in
      append_assoc bs (made (picks d s (span a (i - a)))) (made (x ∷ []))
      ∙ ap (λ cs. bs ++ cs)
      (ap (λ y. made (picks d s (span a (i - a))) ++ made (y ∷ [])) (sym at)
      ∙ sym (picks_more (span a (i - a)) (Some i ∷ []))
      ∙ ap (λ ps. made (picks d s ps)) (sym (map-range_with_len_more Some a (i - a) i (omega (arith, h))) ∙ ap (span a) (sym n)))

bytes_parts : (z : ℕ) (xs ys : List (Option (List ℕ))) → concatenated z (xs ++ ys) ≡ concatenated z xs ++ concatenated z ys
bytes_parts z xs ys = flat_map-append (λ x. unwrap_or x (replicate z 0)) xs ys

lengths_parts : (xs ys : List (Option (List ℕ))) → lengths (xs ++ ys) ≡ lengths xs ++ lengths ys
lengths_parts xs ys = map-append (λ x. length (unwrap_or x [])) xs ys

module _ (s : List (Option (List ℕ))) where
  pub bytes_run : (z : ℕ) (rs : List Run) (i : ℕ) (r : Run) (old new : List ℕ) → i < length rs → old ≡ concatenated z (picks None s (places (take i rs)))
      → new ≡ old ++ concatenated z (picks None s (places_of (get_or rs i r))) → new ≡ concatenated z (picks None s (places (take (i + 1) rs)))
  bytes_run z rs i r old new h e k = k ∙ ap (λ bs. bs ++ concatenated z (picks None s (places_of (get_or rs i r)))) e ∙ run_step None s (concatenated z) (bytes_parts z) rs i r h

  pub bytes_slot : (z : ℕ) (bs : List ℕ) (a i : ℕ) (x : Option (List ℕ)) (old new : List ℕ) → a ≤ i → slice_get s i ≡ Some x → old ≡ bs ++ concatenated z (picks None s (span a (i - a)))
      → new ≡ old ++ unwrap_or x (replicate z 0) → new ≡ bs ++ concatenated z (picks None s (span a (i + 1 - a)))
  bytes_slot z bs a i x old new h e k l =
      l ∙ ap (λ cs. cs ++ unwrap_or x (replicate z 0)) k ∙ ap (λ cs. (bs ++ concatenated z (picks None s (span a (i - a)))) ++ cs) (sym (append-nil (unwrap_or x (replicate z 0))))
      ∙ slot_step None s (concatenated z) (bytes_parts z) bs a i x h e

  pub lengths_run : (rs : List Run) (i : ℕ) (r : Run) (old new : List ℕ) → i < length rs → old ≡ lengths (picks None s (places (take i rs)))
      → new ≡ old ++ lengths (picks None s (places_of (get_or rs i r))) → new ≡ lengths (picks None s (places (take (i + 1) rs)))
  lengths_run rs i r old new h e k = k ∙ ap (λ bs. bs ++ lengths (picks None s (places_of (get_or rs i r)))) e ∙ run_step None s lengths lengths_parts rs i r h

  pub lengths_slot : (bs : List ℕ) (a i : ℕ) (x : Option (List ℕ)) (n : ℕ) (old new : List ℕ) → a ≤ i → slice_get s i ≡ Some x → n ≡ length (unwrap_or x [])
      → old ≡ bs ++ lengths (picks None s (span a (i - a))) → new ≡ old ++ n ∷ [] → new ≡ bs ++ lengths (picks None s (span a (i + 1 - a)))
  lengths_slot bs a i x n old new h e f k l =
      l ∙ ap (λ cs. cs ++ n ∷ []) k ∙ ap (λ m. (bs ++ lengths (picks None s (span a (i - a)))) ++ m ∷ []) f ∙ slot_step None s lengths lengths_parts bs a i x h e

  pub fill_picked : (n : ℕ) → replicate n None ≡ picks None s (replicate n None)
  fill_picked n = picks_fill None s n

replicate_join : {A : Type 0} (x : A) (n m : ℕ) → replicate n x ++ replicate m x ≡ replicate (n + m) x
replicate_join x zero m = let g : 0 + m ≡ m = omega arith in ap (λ k. replicate k x) (sym g)
replicate_join x (suc n) m = let g : suc n + m ≡ suc (n + m) = omega arith in ap (λ ys. x ∷ ys) (replicate_join x n m) ∙ ap (λ k. replicate k x) (sym g)

abbrev zeros : ℕ → List ℕ
zeros n = replicate n 0

pub zeros_fill : (z n : ℕ) → replicate (n * z) 0 ≡ concatenated z (replicate n None)
zeros_fill z zero = let e : 0 * z ≡ 0 = omega arith in ap zeros e
zeros_fill z (suc n) =
    let e : suc n * z ≡ z + n * z = omega arith in
    let o : ℕ = 0 in
    ap zeros e ∙ sym (replicate_join o z (n * z)) ∙ ap (λ bs. zeros z ++ bs) (zeros_fill z n)

pub lengths_fill : (n : ℕ) → replicate n 0 ≡ lengths (replicate n None)
lengths_fill zero = refl
lengths_fill (suc n) = ap (λ ns. 0 ∷ ns) (lengths_fill n)
