-- Offsets: where each of a list's slots begins, and where the last one ends.
use Rattle.std.specs.Prelude.{ℕ, ◌+◌, ◌-◌, ◌<◌, ◌≤◌, ℤ, pos, negsuc, ◌≤ℤ◌, ◌<ℤ◌, int_lt, Bool, false, ◌||◌, List, [], ◌∷◌, map, Option, Some, None, if◌then◌else◌}
use Rattle.arrow_buffers.specs.declared.error.OffsetError.{OffsetError}
use Rattle.arrow_buffers.specs.declared.error.OffsetError.TheVariants.{Empty, Negative, NotMonotone, Overflow, OutOfMemory}

-- The number itself, and 0 for a negative one.
abbrev pub to_nat : ℤ → ℕ
to_nat (pos n) = n
to_nat (negsuc n) = 0

-- From `least` on, none below the one before, and each below the limit.
abbrev pub Ascend : ℕ → ℤ → List ℤ → Type 0
Ascend limit least [] = Unit {0}
Ascend limit least (x ∷ xs) = (least ≤ℤ x) × (x <ℤ pos limit) × Ascend limit x xs

-- At least one, the first not negative, none below the one before, and each below the limit.
abbrev pub AreOffsets : ℕ → List ℤ → Type 0
AreOffsets limit [] = ⊥
AreOffsets limit (x ∷ xs) = Ascend limit (pos 0) (x ∷ xs)

-- Whether the first is below `least`, or another one below the one before.
abbrev pub falls : ℤ → List ℤ → Bool
falls least [] = false
falls least (x ∷ xs) = int_lt x least || falls x xs

-- Why numbers are no offsets, if they are none.
abbrev pub offsets_refusal : List ℤ → Option OffsetError
offsets_refusal [] = Some Empty
offsets_refusal (x ∷ xs) =
    if int_lt x (pos 0) then Some Negative else (if falls x xs then Some NotMonotone else None)

-- Where the slots begin.
abbrev pub first_of : List ℤ → ℕ
first_of [] = 0
first_of (x ∷ xs) = to_nat x

abbrev pub end_from : ℕ → List ℤ → ℕ
end_from n [] = n
end_from n (x ∷ xs) = end_from (to_nat x) xs

-- Where the slots end.
abbrev pub end_of : List ℤ → ℕ
end_of os = end_from 0 os

-- Where slots of these lengths end, of which the first begins at `start`.
abbrev pub ends : ℕ → List ℕ → List ℤ
ends start [] = []
ends start (n ∷ ns) = pos (start + n) ∷ ends (start + n) ns

-- Offsets as far from `to` as they were from `first`.
abbrev pub moved : ℕ → ℕ → List ℤ → List ℤ
moved first to os = map (λ o. pos (to + (to_nat o - first))) os

-- Why slots that would end at `end` are refused: it passes the greatest offset, or it does not and
-- there is no memory.
abbrev pub IsGrowthRefusal : OffsetError → ℕ → ℕ → Type 0
IsGrowthRefusal Overflow limit end = limit ≤ end
IsGrowthRefusal OutOfMemory limit end = end < limit
IsGrowthRefusal _ limit end = ⊥
