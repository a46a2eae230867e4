-- Places of a parent under its mask, and those of the items of lists.
use Rattle.std.specs.Prelude.{ℕ, suc, ◌-◌, ◌*◌, cond, List, [], map, get_or, replicate, Option, Some, None}
use Rattle.arrow_buffers.specs.Bits.{Bits}
use Rattle.arrow_canon.specs.Picks.{span, valid_place}

-- The place, or none where the mask has an unset bit there.
abbrev pub kept_place : Option Bits → Option ℕ → Option ℕ
kept_place m p = cond (valid_place m p) p None

abbrev pub kept_places : Option Bits → List (Option ℕ) → List (Option ℕ)
kept_places m ps = map (kept_place m) ps

-- How many items a list has, by its offsets.
abbrev pub item_count : List ℕ → Option ℕ → ℕ
item_count os None = 0
item_count os (Some i) = get_or os (suc i) 0 - get_or os i 0

-- The positions of those items.
abbrev pub item_places : List ℕ → Option ℕ → List (Option ℕ)
item_places os None = []
item_places os (Some i) = span (get_or os i 0) (get_or os (suc i) 0 - get_or os i 0)

-- The k items of a fixed-size list, which are fillings where there is none.
abbrev pub chunk_places : ℕ → Option ℕ → List (Option ℕ)
chunk_places k None = replicate k None
chunk_places k (Some i) = span (i * k) k
