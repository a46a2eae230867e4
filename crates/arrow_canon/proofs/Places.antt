-- Runs and the places that they take.
use Rattle.std.proofs.Common.{◌≡◌, ℕ, zero, suc, ◌+◌, ◌-◌, ◌≤◌, ◌<◌, List, [], ◌∷◌, ◌++◌, length, map, take, drop, drop-cons, slice_range, get_or, replicate, flat_map, append_assoc, append-nil, length-append, refl, ap, sym, ◌∙◌, subst, arith, Option, Some, None}
use Rattle.std.proofs.lemmas.Grind.{flat_map-append}
use Rattle.std.proofs.lemmas.List.{map-append, take_more}
use Rattle.std.proofs.lemmas.List.FromFn.{length-map-range_with_len, map-range_with_len_more}
use Rattle.std.specs.List.{AllByRecursion}
use Rattle.arrow_buffers.specs.Bits.{Bits}
use Rattle.arrow_flat.specs.Primitives.{MaskHasLength}
use Rattle.arrow_canon.specs.Picks.{pick, picks, IsPlace, ArePlaces, span}
use Rattle.arrow_canon.specs.Runs.{places, places_of, IsWithin, AreWithin, IsWithinMask, AreWithinMask}
use Rattle.arrow_canon.specs.declared.run.Run.{Run}
use Rattle.arrow_canon.specs.declared.run.Run.TheVariants.{Slots, Fill}

pub length-span : (a n : ℕ) → length (span a n) ≡ n
length-span a n = length-map-range_with_len Some a n

places_more : (rs : List Run) (r : Run) → places (rs ++ r ∷ []) ≡ places rs ++ places_of r
places_more rs r = flat_map-append places_of rs (r ∷ []) ∙ ap (λ ps. places rs ++ ps) (append-nil (places_of r))

pub places_step : (rs : List Run) (i : ℕ) (d : Run) → i < length rs → places (take (i + 1) rs) ≡ places (take i rs) ++ places_of (get_or rs i d)
places_step rs i d h = ap places (take_more rs i d h) ∙ places_more (take i rs) (get_or rs i d)

places_up_to : (rs : List Run) (i : ℕ) → length (places (take i rs)) ≤ length (places rs)
places_up_to [] zero = omega arith
places_up_to [] (suc i) = omega arith
places_up_to (r ∷ rs) zero = omega arith
places_up_to (r ∷ rs) (suc i) = omega (arith, places_up_to rs i, length-append (places_of r) (places (take i rs)), length-append (places_of r) (places rs))

pub count_step : (rs : List Run) (i : ℕ) (d : Run) → i < length rs → length (places (take i rs)) + length (places_of (get_or rs i d)) ≤ length (places rs)
count_step rs i d h =
    omega (arith, places_up_to rs (i + 1), ap length (places_step rs i d h), length-append (places (take i rs)) (places_of (get_or rs i d)))

-- ---- what is made of each place, run by run, and position by position

pub mapped_step : {A : Type 0} (f : Option ℕ → A) (rs : List Run) (i : ℕ) (d : Run) → i < length rs
    → map f (places (take i rs)) ++ map f (places_of (get_or rs i d)) ≡ map f (places (take (i + 1) rs))
mapped_step f rs i d h = sym (map-append f (places (take i rs)) (places_of (get_or rs i d))) ∙ ap (map f) (sym (places_step rs i d h))

pub joined_step : {A : Type 0} (f : Option ℕ → List A) (rs : List Run) (i : ℕ) (d : Run) → i < length rs
    → flat_map f (places (take i rs)) ++ flat_map f (places_of (get_or rs i d)) ≡ flat_map f (places (take (i + 1) rs))
joined_step f rs i d h = sym (flat_map-append f (places (take i rs)) (places_of (get_or rs i d))) ∙ ap (flat_map f) (sym (places_step rs i d h))

span_more : (a n i : ℕ) → a + n ≡ i → span a (n + 1) ≡ span a n ++ Some i ∷ []
span_more a n i e = map-range_with_len_more Some a n i e

pub span_step : (ps : List (Option ℕ)) (a i : ℕ) → a ≤ i → (ps ++ span a (i - a)) ++ Some i ∷ [] ≡ ps ++ span a (i + 1 - a)
span_step ps a i h =
    let e : i + 1 - a ≡ i - a + 1 = omega (arith, h) in
    append_assoc ps (span a (i - a)) (Some i ∷ []) ∙ ap (λ qs. ps ++ qs) (sym (span_more a (i - a) i (omega (arith, h))) ∙ ap (span a) (sym e))

pub mapped_span_more : {A : Type 0} (f : Option ℕ → A) (xs : List A) (a i : ℕ) → a ≤ i
    → (xs ++ map f (span a (i - a))) ++ f (Some i) ∷ [] ≡ xs ++ map f (span a (i + 1 - a))
mapped_span_more f xs a i h =
    let e : i + 1 - a ≡ i - a + 1 = omega (arith, h) in
    append_assoc xs (map f (span a (i - a))) (f (Some i) ∷ [])
    ∙ ap (λ ys. xs ++ ys) (sym (map-append f (span a (i - a)) (Some i ∷ [])) ∙ ap (map f) (sym (span_more a (i - a) i (omega (arith, h))) ∙ ap (span a) (sym e)))

pub joined_span_more : {A : Type 0} (f : Option ℕ → List A) (xs : List A) (a i : ℕ) → a ≤ i
    → (xs ++ flat_map f (span a (i - a))) ++ f (Some i) ≡ xs ++ flat_map f (span a (i + 1 - a))
joined_span_more f xs a i h =
    let e : i + 1 - a ≡ i - a + 1 = omega (arith, h) in
    append_assoc xs (flat_map f (span a (i - a))) (f (Some i))
    ∙ ap (λ ys. xs ++ ys)
    (ap (λ ys. flat_map f (span a (i - a)) ++ ys) (sym (append-nil (f (Some i)))) ∙ sym (flat_map-append f (span a (i - a)) (Some i ∷ [])) ∙ ap (flat_map f) (sym (span_more a (i - a) i (omega (arith, h))) ∙ ap (span a) (sym e)))

picks_from : {A : Type 0} (d : A) (xs : List A) (a n : ℕ) → a + n ≤ length xs → take n (drop a xs) ≡ picks d xs (span a n)
picks_from {A = A} d xs a zero h = none (drop a xs) where
  none : (ys : List A) → ◌≡◌ {A = List A} (take 0 ys) []
  none [] = refl
  none (y ∷ ys) = refl
picks_from d xs a (suc n) h =
    let e : suc a ≡ a + 1 = omega arith in
    ap (take (suc n)) (drop-cons xs a d (omega (arith, h))) ∙ ap (λ ys. get_or xs a d ∷ ys) (ap (λ k. take n (drop k xs)) e ∙ picks_from d xs (a + 1) n (omega (arith, h)))

-- the part of a list that stands at n positions from a on
pub picks_part : {A : Type 0} (d : A) (xs : List A) (a n : ℕ) → a + n ≤ length xs → take n (drop a xs) ≡ picks d xs (span a n)
picks_part d xs a n h = picks_from d xs a n h

pub picks_slots : {A : Type 0} (d : A) (xs : List A) (a n : ℕ) → a + n ≤ length xs → slice_range xs a (a + n) ≡ picks d xs (span a n)
picks_slots d xs a n h = let e : a + n - a ≡ n = omega arith in ap (λ k. take k (drop a xs)) e ∙ picks_from d xs a n h

pub map_replicate : {A B : Type 0} (f : A → B) (x : A) (n : ℕ) → map f (replicate n x) ≡ replicate n (f x)
map_replicate f x zero = refl
map_replicate f x (suc n) = ap (λ ys. f x ∷ ys) (map_replicate f x n)

pub picks_fill : {A : Type 0} (d : A) (xs : List A) (n : ℕ) → replicate n d ≡ picks d xs (replicate n None)
picks_fill d xs n = sym (map_replicate (pick d xs) None n)

-- ---- runs within

pub within_at : (n : ℕ) (rs : List Run) (i : ℕ) (d : Run) → i < length rs → AreWithin n rs → IsWithin n (get_or rs i d)
within_at n [] i d h w = absurd (omega (arith, h))
within_at n (q ∷ rs) zero d h w = w.0
within_at n (q ∷ rs) (suc i) d h w = within_at n rs i d (omega (arith, h)) w.1

pub within_mask_at : (m : Option Bits) (rs : List Run) (i : ℕ) (d : Run) → i < length rs → AreWithinMask m rs → IsWithinMask m (get_or rs i d)
within_mask_at None rs i d h w = tt
within_mask_at (Some b) rs i d h w = within_at (length b.bits) rs i d h w

pub within_mask : (m : Option Bits) (n : ℕ) (rs : List Run) → MaskHasLength m n → AreWithin n rs → AreWithinMask m rs
within_mask None n rs f h = tt
within_mask (Some b) n rs f h = subst (λ k. AreWithin k rs) (sym f) h

span_within : (n a k : ℕ) → a + k ≤ n → ArePlaces n (span a k)
span_within n a zero h = tt
span_within n a (suc k) h = (omega (arith, h), span_within n (a + 1) k (omega (arith, h)))

fill_within : (n k : ℕ) → ArePlaces n (replicate k None)
fill_within n zero = tt
fill_within n (suc k) = (tt, fill_within n k)

run_within : (n : ℕ) (r : Run) → IsWithin n r → ArePlaces n (places_of r)
run_within n (Slots a k) h = span_within n a k h
run_within n (Fill k) h = fill_within n k

all_join : {A : Type 0} (P : A → Type 0) (xs ys : List A) → AllByRecursion P xs → AllByRecursion P ys → AllByRecursion P (xs ++ ys)
all_join P [] ys h k = k
all_join P (x ∷ xs) ys h k = (h.0, all_join P xs ys h.1 k)

pub places_within : (n : ℕ) (rs : List Run) → AreWithin n rs → ArePlaces n (places rs)
places_within n [] h = tt
places_within n (r ∷ rs) h = all_join (IsPlace n) (places_of r) (places rs) (run_within n r h.0) (places_within n rs h.1)
