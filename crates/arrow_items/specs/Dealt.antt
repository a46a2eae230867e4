-- Lists of runs to which places are dealt out, and how often positions stand in a list.
use Rattle.std.specs.Prelude.{◌≡◌, ℕ, ◌<◌, List, [], ◌++◌, length, map, get_or, Option}
use Rattle.std.specs.Global.{Vec}
use Rattle.arrow_layout.specs.Canon.{occurrences}
use Rattle.arrow_canon.specs.Runs.{places, AreWithin}
use Rattle.arrow_canon.specs.declared.run.Run.{Run}

-- The runs of each list.
abbrev pub runs_of : List (Vec Run) → List (List Run)
runs_of vs = map (λ v. v.items) vs

-- Behind the places of each list stand those that it is given.
abbrev pub AreDealt : (ℕ → List (Option ℕ)) → List (List Run) → List (List Run) → Type 0
AreDealt given before after =
    (length after ≡ length before) × ((j : ℕ) → j < length before → places (get_or after j []) ≡ places (get_or before j []) ++ given j)

-- The slots of each list are within its length.
abbrev pub AllWithin : List ℕ → List (List Run) → Type 0
AllWithin lengths lists = (j : ℕ) → AreWithin (get_or lengths j 0) (get_or lists j [])

-- At each position stands how often the position is in the list.
abbrev pub AreCounts : List ℕ → List ℕ → Type 0
AreCounts counts before = (j : ℕ) → j < length counts → get_or counts j 0 ≡ occurrences j before
