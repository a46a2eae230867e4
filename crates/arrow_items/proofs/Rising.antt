-- Offsets of which none is below the one before.
use Rattle.std.proofs.Common.{◌≡◌, ℕ, zero, suc, pred, ◌≤◌, ◌<◌, List, [], ◌∷◌, length, get_or, refl, arith}
use Rattle.arrow_layout.specs.WellFormed.{AscendTo, AreOffsetsTo}

first_low : (top a : ℕ) (os : List ℕ) (j : ℕ) → AscendTo top a os → j < suc (length os) → a ≤ get_or (a ∷ os) j 0
first_low top a os zero h k = omega arith
first_low top a [] (suc j) h k = absurd (omega (arith, k))
first_low top a (b ∷ os) (suc j) h k = omega (arith, h.0, first_low top b os j h.1 (omega (arith, k)))

rising : (top a : ℕ) (os : List ℕ) (i j : ℕ) → AscendTo top a os → i ≤ j → j < suc (length os) → get_or (a ∷ os) i 0 ≤ get_or (a ∷ os) j 0
rising top a os zero j h e k = first_low top a os j h k
rising top a os (suc i) zero h e k = absurd (omega (arith, e))
rising top a [] (suc i) (suc j) h e k = absurd (omega (arith, k))
rising top a (b ∷ os) (suc i) (suc j) h e k = rising top b os i j h.1 (omega (arith, e)) (omega (arith, k))

pub offsets_rise : (top : ℕ) (os : List ℕ) (i j : ℕ) → AreOffsetsTo top os → i ≤ j → j < length os → get_or os i 0 ≤ get_or os j 0
offsets_rise top [] i j h e k = absurd h
offsets_rise top (a ∷ os) i j h e k = rising top a os i j h e k

last_low : (top a : ℕ) (os : List ℕ) (j : ℕ) → AscendTo top a os → j < suc (length os) → get_or (a ∷ os) j 0 ≤ top
last_low top a [] zero h k = h
last_low top a [] (suc j) h k = absurd (omega (arith, k))
last_low top a (b ∷ os) zero h k = omega (arith, h.0, last_low top b os zero h.1 (omega arith))
last_low top a (b ∷ os) (suc j) h k = last_low top b os j h.1 (omega (arith, k))

pub offsets_low : (top : ℕ) (os : List ℕ) (j : ℕ) → AreOffsetsTo top os → j < length os → get_or os j 0 ≤ top
offsets_low top [] j h k = absurd h
offsets_low top (a ∷ os) j h k = last_low top a os j h k

pub some_offsets : (top : ℕ) (os : List ℕ) → AreOffsetsTo top os → suc (pred (length os)) ≡ length os
some_offsets top [] h = absurd h
some_offsets top (o ∷ os) h = refl
