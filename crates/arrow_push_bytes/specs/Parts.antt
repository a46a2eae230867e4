-- Bytes that are the values of given lengths, one after another.
use Rattle.std.specs.Prelude.{◌≡◌, ◌⊎◌, ℕ, List, [], ◌∷◌, take, drop, Result, MatchResult, Some}
use Rattle.arrow_types.specs.declared.error.PolarsError.{PolarsError}
use Rattle.arrow_types.specs.declared.error.PolarsError.TheVariants.{OutOfMemory}
use Rattle.arrow_flat.specs.Slots.{Slot}
use Rattle.arrow_flat.specs.Built.{Built, Gains, Takes, IsUnchanged}

abbrev pub parts : List ℕ → List ℕ → List (List ℕ)
parts [] bs = []
parts (n ∷ ns) bs = take n bs ∷ parts ns (drop n bs)

-- The slots went in, in their order, or it was refused as they are and nothing changed.
abbrev pub PushesAll : List Slot → Built → Built → Result (Unit {0}) PolarsError → Type 0
PushesAll ys old new result = MatchResult result
    (λ _. Takes old new ys)
    (λ e. IsUnchanged old new × ((e ≡ OutOfMemory) ⊎ (old.refusal ys ≡ Some e)))

-- The slots went in, in their order, or only some did and it was refused as all are.
abbrev pub PushesSome : List Slot → Built → Built → Result (Unit {0}) PolarsError → Type 0
PushesSome ys old new result = MatchResult result
    (λ _. Takes old new ys)
    (λ e. ((zs : List Slot) × Gains old new zs) × ((e ≡ OutOfMemory) ⊎ (old.refusal ys ≡ Some e)))
