-- Offsets between byte strings that follow one another.
use Rattle.std.proofs.Common.{◌≡◌, ℕ, suc, ◌+◌, ◌<◌, ℤ, pos, List, [], ◌∷◌, ◌++◌, length, map, sum, refl, ap, sym, subst, ◌∙◌, arith, Option}
use Rattle.std.specs.Prelude.{unwrap_or, pred}
use Rattle.std.specs.List.{AllByRecursion}
use Rattle.std.proofs.lemmas.List.{length-map}
use Rattle.std.proofs.lemmas.List.Concat.{length-flat_map}
use Rattle.std.proofs.lemmas.List.Sums.{sum-map, sum_by-cons}
use Rattle.arrow_buffers.specs.Offsets.{end_from, end_of, ends as number_ends}
use Rattle.arrow_types.specs.Carried.{IsBelow}
use Rattle.arrow_layout.specs.Canon.{sums_from, offsets}
use Rattle.arrow_canon.specs.Steps.{concatenated, lengths}

sum_cons : (n : ℕ) (ns : List ℕ) → sum (n ∷ ns) ≡ n + sum ns
sum_cons n ns = sum_by-cons (λ x. x) n ns

-- ---- offsets from 0

ends_numbers : (a : ℕ) (ns : List ℕ) → number_ends a ns ≡ map pos (sums_from a ns)
ends_numbers a [] = refl
ends_numbers a (n ∷ ns) = ap (λ os. pos (a + n) ∷ os) (ends_numbers (a + n) ns)

pub offsets_numbers : (os : List ℤ) (ns : List ℕ) → os ≡ pos 0 ∷ [] → os ++ number_ends (end_of os) ns ≡ offsets ns
offsets_numbers os ns e =
    let P : List ℤ → Type 0 = λ os. os ++ number_ends (end_of os) ns ≡ offsets ns in
    subst P (sym e) (ap (λ es. pos 0 ∷ es) (ends_numbers 0 ns))

end_from_ends : (a : ℕ) (ns : List ℕ) → end_from a (map pos (sums_from a ns)) ≡ a + sum ns
end_from_ends a [] = omega arith
end_from_ends a (n ∷ ns) =
    let e : (a + n) + sum ns ≡ a + sum (n ∷ ns) = omega (arith, sum_cons n ns) in
    end_from_ends (a + n) ns ∙ e

-- the last one is the count of bytes
pub end_joined : (s : List (Option (List ℕ))) → end_of (offsets (lengths s)) ≡ length (concatenated 0 s)
end_joined s =
    let q : 0 + sum (lengths s) ≡ sum (lengths s) = omega arith in
    end_from_ends 0 (lengths s) ∙ q ∙ sum-map (λ x. length (unwrap_or x [])) s ∙ sym (length-flat_map (λ x. unwrap_or x []) s)

ends_count : (a : ℕ) (ns : List ℕ) → length (map pos (sums_from a ns)) ≡ length ns
ends_count a [] = refl
ends_count a (n ∷ ns) = ap suc (ends_count (a + n) ns)

-- there is one for each slot, and one before
pub offsets_count : (s : List (Option (List ℕ))) → pred (length (offsets (lengths s))) ≡ length s
offsets_count s = ends_count 0 (lengths s) ∙ length-map s (λ x. length (unwrap_or x []))

-- ---- each is below the limit exactly where their sum is

pub sums_below : (limit a : ℕ) (ns : List ℕ) → a + sum ns < limit → AllByRecursion (IsBelow limit) (pos a ∷ map pos (sums_from a ns))
sums_below limit a [] h = (omega (arith, h), tt)
sums_below limit a (n ∷ ns) h = (omega (arith, h), sums_below limit (a + n) ns (omega (arith, h, sum_cons n ns)))

pub below_sums : (limit a : ℕ) (ns : List ℕ) → AllByRecursion (IsBelow limit) (pos a ∷ map pos (sums_from a ns)) → a + sum ns < limit
below_sums limit a [] h = omega (arith, h.0)
below_sums limit a (n ∷ ns) h = omega (arith, below_sums limit (a + n) ns h.1, sum_cons n ns)
