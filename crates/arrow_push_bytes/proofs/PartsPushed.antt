-- Values of given lengths that were pushed one by one.
use Rattle.std.proofs.Common.{◌≡◌, ℕ, ◌+◌, ◌-◌, ◌<◌, ◌≤◌, Bool, true, false, cond, List, [], ◌∷◌, ◌++◌, map, length, take, drop, fold, sum, refl, ap, sym, ◌∙◌, subst, arith, inl, inr, append_assoc, append-nil, length-drop, Option, Some, None}
use Rattle.std.specs.Prelude.{◌⊎◌}
use Rattle.std.proofs.lemmas.List.{map-append, length-take-le}
use Rattle.arrow_types.specs.declared.error.PolarsError.{PolarsError}
use Rattle.arrow_types.specs.declared.error.PolarsError.TheVariants.{OutOfMemory, ComputeError}
use Rattle.arrow_types.specs.declared.error.Reason.TheVariants.{LengthOverflow}
use Rattle.arrow_flat.specs.Slots.{Slot, bytes}
use Rattle.arrow_flat.specs.Built.{Built, Takes}
use Rattle.arrow_views.specs.ViewArrays.{AreTextsIf}
use Rattle.arrow_push.specs.Masks.{all_filled, built_under}
use Rattle.arrow_push.proofs.Takes.{takes_more}
use Rattle.arrow_push_bytes.specs.Strings.{total_of}
use Rattle.arrow_push_bytes.specs.Parts.{parts}
use Rattle.arrow_push_bytes.specs.BuiltStrings.{TypedStrings}
use Rattle.arrow_push_bytes.specs.BuiltViews.{most_bytes, has_room, views_refusal, built_views}
use Rattle.arrow_push_bytes.proofs.BuiltViews.{some_refused}

-- ---- sums of lengths

abbrev pub summed : List ℕ → ℕ
summed [] = 0
summed (n ∷ ns) = n + summed ns

fold_sum : (n : ℕ) (ns : List ℕ) → fold (λ a x. a + x) n ns ≡ n + summed ns
fold_sum n [] = sym (omega arith)
fold_sum n (k ∷ ns) = fold_sum (n + k) ns ∙ omega arith

pub sum_is : (ns : List ℕ) → sum ns ≡ summed ns
sum_is ns = fold_sum 0 ns ∙ omega arith

-- ---- what is left of the bytes and the lengths

abbrev pub Left : List ℕ → List ℕ → List (List ℕ) → List (List ℕ) → Type 0
Left ns bs all us = (all ≡ us ++ parts ns bs) × (summed ns ≡ length bs)

pub left_within : (lengths : List ℕ) (i n : ℕ) (rest : List ℕ) (all us : List (List ℕ)) → drop i lengths ≡ n ∷ drop (i + 1) lengths → Left (drop i lengths) rest all us → n ≤ length rest
left_within lengths i n rest all us e h =
    let q : summed (drop i lengths) ≡ n + summed (drop (i + 1) lengths) = ap summed e in
    omega (arith, h.1)

pub left_part : (lengths : List ℕ) (i n : ℕ) (rest : List ℕ) (all us : List (List ℕ)) → drop i lengths ≡ n ∷ drop (i + 1) lengths → Left (drop i lengths) rest all us
    → all ≡ us ++ take n rest ∷ parts (drop (i + 1) lengths) (drop n rest)
left_part lengths i n rest all us e h = h.0 ∙ ap (λ ns. us ++ parts ns rest) e

pub left_next : (lengths : List ℕ) (i n : ℕ) (rest : List ℕ) (all us : List (List ℕ)) → drop i lengths ≡ n ∷ drop (i + 1) lengths → Left (drop i lengths) rest all us
    → Left (drop (i + 1) lengths) (drop n rest) all (us ++ take n rest ∷ [])
left_next lengths i n rest all us e h =
    let q : summed (drop i lengths) ≡ n + summed (drop (i + 1) lengths) = ap summed e in (
      left_part lengths i n rest all us e h ∙ sym (append_assoc us (take n rest ∷ []) (parts (drop (i + 1) lengths) (drop n rest))),
      omega (arith, h.1, length-drop n rest),
    )

texts_from : (text : Bool) (us : List (List ℕ)) (v : List ℕ) (vs : List (List ℕ)) → AreTextsIf text (us ++ v ∷ vs) → AreTextsIf text (v ∷ [])
texts_from false us v vs h = tt
texts_from true [] v vs h = (h.0, tt)
texts_from true (u ∷ us) v vs h = texts_from true us v vs h.1

pub part_text : (text : Bool) (lengths : List ℕ) (i n : ℕ) (rest : List ℕ) (all us : List (List ℕ)) → drop i lengths ≡ n ∷ drop (i + 1) lengths → Left (drop i lengths) rest all us
    → AreTextsIf text all → AreTextsIf text (take n rest ∷ [])
part_text text lengths i n rest all us e h k = texts_from text us (take n rest) (parts (drop (i + 1) lengths) (drop n rest)) (subst (AreTextsIf text) (left_part lengths i n rest all us e h) k)

pub all_left : (lengths : List ℕ) (i : ℕ) (rest : List ℕ) (all us : List (List ℕ)) → drop i lengths ≡ [] → Left (drop i lengths) rest all us → us ≡ all
all_left lengths i rest all us e h = sym (h.0 ∙ ap (λ ns. us ++ parts ns rest) e ∙ append-nil us)

-- ---- pushes

refused_more : (n : ℕ) (v : List ℕ) (ys : List Slot) (e : PolarsError) → views_refusal n (bytes v ∷ []) ≡ Some e → views_refusal n (bytes v ∷ ys) ≡ Some e
refused_more n v ys e h = by (has_room n (length v)) h
  where
    by : (c : Bool) → cond c None (Some (ComputeError LengthOverflow)) ≡ Some e → cond c (views_refusal (n + length v) ys) (Some (ComputeError LengthOverflow)) ≡ Some e
    by true h = cc
    by false h = h

-- a builder of views under a mask
abbrev pub nullable : TypedStrings → Option (List Bool) → Built
nullable p m = built_under (λ t. bytes []) (built_views p) m

pub one_more : (old now new : Built) (us : List (List ℕ)) (v : List ℕ) (y : Slot) → y ≡ bytes v
    → Takes old now (map bytes us) → Takes now new (y ∷ []) → Takes old new (map bytes (us ++ v ∷ []))
one_more old now new us v y e h k =
    subst (Takes old new) (sym (map-append bytes us (v ∷ [])))
    (takes_more old now new (map bytes us) (bytes v ∷ []) h (subst (λ y. Takes now new (y ∷ [])) e k))

pub part_refused : (old : Built) (p : TypedStrings) (m : Option (List Bool)) (us : List (List ℕ)) (v : List ℕ) (vs all : List (List ℕ)) (e : PolarsError)
    → Takes old (nullable p m) (map bytes us) → all ≡ us ++ v ∷ vs
    → ((e ≡ OutOfMemory) ⊎ ((y : Slot) × (y ≡ bytes v) × ((nullable p m).refusal (y ∷ []) ≡ Some e)))
    → (e ≡ OutOfMemory) ⊎ (old.refusal (map bytes all) ≡ Some e)
part_refused old p m us v vs all e h q (inl r) = inl r
part_refused old p m us v vs all e h q (inr w) =
    let r : views_refusal (total_of p.strings) (bytes v ∷ []) ≡ Some e = subst (λ y. (nullable p m).refusal (y ∷ []) ≡ Some e) w.1 w.2 in
    inr (
    ap (λ zs. old.refusal (map bytes zs)) q ∙ ap (λ ys. old.refusal ys) (map-append bytes us (v ∷ vs))
    ∙ sym (h.later_refusal (map bytes (v ∷ vs))) ∙ refused_more (total_of p.strings) v (all_filled (bytes []) (map bytes vs)) e r
    )

-- ---- all at once

all_filled_strings : (xs : List (List ℕ)) → all_filled (bytes []) (map bytes xs) ≡ map bytes xs
all_filled_strings [] = refl
all_filled_strings (x ∷ xs) = ap (λ ys. bytes x ∷ ys) (all_filled_strings xs)

parts_total : (ns bs : List ℕ) → summed ns ≡ length bs → total_of (parts ns bs) ≡ length bs
parts_total [] bs h = h
parts_total (n ∷ ns) bs h =
    let l : length (take n bs) ≡ n = length-take-le n bs (omega arith) in
    let d : length (drop n bs) ≡ length bs - n = length-drop n bs in
    let q : total_of (parts ns (drop n bs)) ≡ length (drop n bs) = parts_total ns (drop n bs) (omega arith) in
    omega arith

-- values that are too many together are refused
pub parts_refused : (p : TypedStrings) (m : Option (List Bool)) (ns bs : List ℕ) → sum ns ≡ length bs → total_of p.strings ≤ most_bytes
    → most_bytes < total_of p.strings + length bs → (nullable p m).refusal (map bytes (parts ns bs)) ≡ Some (ComputeError LengthOverflow)
parts_refused p m ns bs e few many =
    let t : total_of (parts ns bs) ≡ length bs = parts_total ns bs (sym (sum_is ns) ∙ e) in
    ap (views_refusal (total_of p.strings)) (all_filled_strings (parts ns bs))
    ∙ some_refused (total_of p.strings) (parts ns bs) few (omega arith)
