-- How often positions stand in a list, one position at a time.
use Rattle.std.proofs.Common.{◌≡◌, ℕ, zero, suc, ◌+◌, ◌<◌, Bool, true, false, cond, nat_eq, ℤ, pos, List, [], ◌∷◌, ◌++◌, length, map, take, get_or, set, replicate, get_or-set_same, get_or-set_other, length-set, ◌≢◌, append_assoc, append-nil, refl, ap, sym, ◌∙◌, subst, arith}
use Rattle.std.proofs.lemmas.Bool.{eqb-true, eqb-false, eq-eqb}
use Rattle.std.proofs.lemmas.List.{map-append, take_more}
use Rattle.std.specs.List.{AllByRecursion}
use Rattle.arrow_types.specs.Select.{nat_of}
use Rattle.arrow_layout.specs.Canon.{occurrences, counts_after}
use Rattle.arrow_canonical.specs.Counted.{AreCounts}

count_by : (j : ℕ) (xs : List ℕ) (k : ℕ) (b : Bool) (n : ℕ) → cond b (suc (occurrences j xs + n)) (occurrences j xs + n) ≡ cond b (suc (occurrences j xs)) (occurrences j xs) + n
count_by j xs k true n = omega arith
count_by j xs k false n = refl

occurrences-append : (j : ℕ) (xs ys : List ℕ) → occurrences j (xs ++ ys) ≡ occurrences j xs + occurrences j ys
occurrences-append j [] ys = omega arith
occurrences-append j (x ∷ xs) ys =
    ap (λ n. cond (nat_eq x j) (suc n) n) (occurrences-append j xs ys) ∙ count_by j xs x (nat_eq x j) (occurrences j ys)

pub count_same : (k : ℕ) (before : List ℕ) → occurrences k (before ++ k ∷ []) ≡ occurrences k before + 1
count_same k before = let P : Bool → ℕ = λ b. cond b 1 0 in let one : P (nat_eq k k) ≡ P true = ap P (eq-eqb k k refl) in omega (arith, occurrences-append k before (k ∷ []), one)

other_by : (k j : ℕ) (b : Bool) → nat_eq k j ≡ b → (k ≡ j → ⊥) → ◌≡◌ {A = ℕ} (cond b 1 0) 0
other_by k j true e h = absurd (h (eqb-true k j e))
other_by k j false e h = refl

pub count_other : (j k : ℕ) (before : List ℕ) → (k ≡ j → ⊥) → occurrences j (before ++ k ∷ []) ≡ occurrences j before
count_other j k before h = let none : ◌≡◌ {A = ℕ} (cond (nat_eq k j) 1 0) 0 = other_by k j (nat_eq k j) refl h in omega (arith, occurrences-append j before (k ∷ []), none)

counts_then : (before xs : List ℕ) (k : ℕ) → counts_after before (xs ++ k ∷ []) ≡ counts_after before xs ++ occurrences k (before ++ xs) ∷ []
counts_then before [] k = ap (λ ys. occurrences k ys ∷ []) (sym (append-nil before))
counts_then before (x ∷ xs) k =
    ap (λ ys. occurrences x before ∷ ys) (counts_then (before ++ x ∷ []) xs k ∙ ap (λ ys. counts_after (before ++ x ∷ []) xs ++ occurrences k ys ∷ []) (append_assoc before (x ∷ []) xs))

pub field_low : (n : ℕ) (xs : List ℕ) (i : ℕ) → i < length xs → AllByRecursion (λ k. k < n) xs → get_or xs i 0 < n
field_low n [] i h w = absurd (omega (arith, h))
field_low n (x ∷ xs) zero h w = w.0
field_low n (x ∷ xs) (suc i) h w = field_low n xs i (omega (arith, h)) w.1

pub zeros_at : (n k : ℕ) → ◌≡◌ {A = ℕ} (get_or (replicate n 0) k 0) 0
zeros_at zero k = refl
zeros_at (suc n) zero = refl
zeros_at (suc n) (suc k) = zeros_at n k

counts_by : (cs : List ℕ) (f v : ℕ) (before : List ℕ) → AreCounts cs before → f < length cs → v ≡ get_or cs f 0 + 1 → (k : ℕ) → k < length cs → (b : Bool) → nat_eq f k ≡ b
    → get_or (set cs f v) k 0 ≡ occurrences k (before ++ f ∷ [])
counts_by cs f v before h low e k within true q =
    let same : f ≡ k = eqb-true f k q in
    let here : get_or (set cs f v) f 0 ≡ v = rw get_or-set_same refl in
    subst (λ j. get_or (set cs f v) j 0 ≡ occurrences j (before ++ f ∷ [])) same (omega (arith, here, e, h f low, count_same f before))
counts_by cs f v before h low e k within false q =
    let ne : f ≡ k → ⊥ = eqb-false f k q in
    let other : k ≢ f = λ p. ne (sym p) in
    let here : get_or (set cs f v) k 0 ≡ get_or cs k 0 = rw get_or-set_other refl in
    here ∙ h k within ∙ sym (count_other k f before ne)

pub counts_set : (cs : List ℕ) (f v : ℕ) (before : List ℕ) → AreCounts cs before → f < length cs → v ≡ get_or cs f 0 + 1 → AreCounts (set cs f v) (before ++ f ∷ [])
counts_set cs f v before h low e k within = counts_by cs f v before h low e k (omega (arith, within, length-set cs f v)) (nat_eq f k) refl

pub counts_more : (xs : List ℕ) (i : ℕ) → i < length xs → counts_after [] (take i xs) ++ occurrences (get_or xs i 0) (take i xs) ∷ [] ≡ counts_after [] (take (i + 1) xs)
counts_more xs i h = sym (counts_then [] (take i xs) (get_or xs i 0)) ∙ ap (counts_after []) (sym (take_more xs i 0 h))

counts_in : (before xs : List ℕ) (i : ℕ) → i < length xs → get_or (counts_after before xs) i 0 ≡ occurrences (get_or xs i 0) (before ++ take i xs)
counts_in before [] i h = absurd (omega (arith, h))
counts_in before (x ∷ xs) zero h = ap (occurrences x) (sym (append-nil before))
counts_in before (x ∷ xs) (suc i) h =
    counts_in (before ++ x ∷ []) xs i (omega (arith, h)) ∙ ap (occurrences (get_or xs i 0)) (append_assoc before (x ∷ []) (take i xs))

pub counts_at : (xs : List ℕ) (i : ℕ) → i < length xs → get_or (counts_after [] xs) i 0 ≡ occurrences (get_or xs i 0) (take i xs)
counts_at xs i h = counts_in [] xs i h

pub nat_get : (os : List ℤ) (i : ℕ) → get_or (map nat_of os) i 0 ≡ nat_of (get_or os i (pos 0))
nat_get [] i = refl
nat_get (o ∷ os) zero = refl
nat_get (o ∷ os) (suc i) = nat_get os i

pub nat_more : (os : List ℤ) (i : ℕ) → i < length os → map nat_of (take (i + 1) os) ≡ map nat_of (take i os) ++ nat_of (get_or os i (pos 0)) ∷ []
nat_more os i h = ap (map nat_of) (take_more os i (pos 0) h) ∙ map-append nat_of (take i os) (get_or os i (pos 0) ∷ [])
