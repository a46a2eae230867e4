-- The children of unions, field by field.
use Rattle.std.specs.Prelude.{◌≡◌, ℕ, ◌<◌, List, get_or, length}
use Rattle.arrow_layout.specs.Canon.{occurrences}
use Rattle.arrow_layout.specs.Canonical.{FillElsewhere}
use Rattle.arrow_layout.specs.Denote.{denote}
use Rattle.arrow_layout.specs.Layouts.{Layout, length_of, type_of}
use Rattle.arrow_layout.specs.SlotsOf.{fill}

-- Each child is as long as the fields that are selected, and a filling where another one is.
abbrev pub AllElsewhere : List ℕ → List Layout → Type 0
AllElsewhere fields ls = (k : ℕ) (l : Layout) → k < length ls → l ≡ get_or ls k l → FillElsewhere (fill (type_of l)) k fields (denote l)

-- At each position stands how often the position is in the list.
abbrev pub AreCounts : List ℕ → List ℕ → Type 0
AreCounts counts before = (j : ℕ) → j < length counts → get_or counts j 0 ≡ occurrences j before

-- Each child has a slot for each that selects it.
abbrev pub AllCounted : List ℕ → List Layout → Type 0
AllCounted fields ls = (k : ℕ) (l : Layout) → k < length ls → l ≡ get_or ls k l → length_of l ≡ occurrences k fields
