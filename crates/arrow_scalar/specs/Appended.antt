-- Bytes that are appended, and their count.
use Rattle.std.specs.Prelude.{◌≡◌, ℕ, ◌+◌, ◌-◌, ◌^◌, List, [], ◌++◌, length, min}
use Rattle.std.proofs.Common.{sym, ap, ◌∙◌, arith, append-nil, append_assoc}
use Rattle.std.proofs.lemmas.List.{length-append}

-- The greatest count of a usize stands for all that pass it.
abbrev pub Counted : ℕ → ℕ → ℕ → Type 0
Counted x n y = min y (2 ^ 64 - 1) ≡ min (x + n) (2 ^ 64 - 1)

pub append_nothing : (xs : List ℕ) → xs ≡ xs ++ []
append_nothing xs = sym (append-nil xs)

pub append_both : (xs ys zs bs cs : List ℕ) → ys ≡ xs ++ bs → zs ≡ ys ++ cs → zs ≡ xs ++ (bs ++ cs)
append_both xs ys zs bs cs e f = f ∙ ap (λ l. l ++ cs) e ∙ append_assoc xs bs cs

pub count_nothing : (x : ℕ) → Counted x 0 x
count_nothing x = omega arith

pub count_both : (x y z : ℕ) (bs cs : List ℕ) → Counted x (length bs) y → Counted y (length cs) z → Counted x (length (bs ++ cs)) z
count_both x y z bs cs e f = omega (arith, e, f, length-append bs cs)
