-- Values of bytes that stand one after another.
use Rattle.std.specs.Prelude.{◌≡◌, ◌⊎◌, ℕ, ◌+◌, ◌<◌, ◌≤◌, ℤ, pos, List, [], ◌∷◌, ◌++◌, length, map, Result, MatchResult}
use Rattle.std.specs.List.{concat}
use Rattle.arrow_types.specs.declared.error.PolarsError.{PolarsError}
use Rattle.arrow_types.specs.declared.error.PolarsError.TheVariants.{ComputeError, OutOfMemory}
use Rattle.arrow_types.specs.declared.error.Reason.TheVariants.{LengthOverflow}
use Rattle.arrow_buffers.specs.Offsets.{ends}
use Rattle.arrow_flat.specs.Natives.{AreBytes}

-- How many bytes strings have together.
abbrev pub total_of : List (List ℕ) → ℕ
total_of [] = 0
total_of (x ∷ xs) = length x + total_of xs

-- Where strings begin that stand one after another, and where the last one ends.
abbrev pub borders : List (List ℕ) → List ℤ
borders xs = pos 0 ∷ ends 0 (map length xs)

-- Offsets and bytes are those of strings, with nothing between them or after the last; each byte is
-- below 256.
pub record AreStrings (offsets : List ℤ) (bytes : List ℕ) (xs : List (List ℕ)) : Type 0 where
  pub borders_are : offsets ≡ borders xs
  pub bytes_are : bytes ≡ concat xs
  pub small : AreBytes bytes

-- Why strings that would end at `end` are refused: they pass the greatest offset, or memory runs out.
abbrev pub IsOverflow : ℕ → ℕ → PolarsError → Type 0
IsOverflow limit end e = (e ≡ OutOfMemory) ⊎ ((e ≡ ComputeError LengthOverflow) × (limit ≤ end))

-- The strings xs went in behind others, where all of them end below the limit, or none did.
abbrev pub Appends : ℕ → List (List ℕ) → ℕ → List (List ℕ) → List (List ℕ) → Result (Unit {0}) PolarsError → Type 0
Appends limit xs end old new result = MatchResult result
    (λ _. (new ≡ old ++ xs) × (end < limit))
    (λ e. (new ≡ old) × IsOverflow limit end e)
