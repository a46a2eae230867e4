-- Slots that are picked out of a layout: each place is a position, or none, where the filling of the type stands.
use Rattle.std.specs.Prelude.{◌≡◌, ℕ, ◌<◌, Bool, false, List, map, get_or, Option, Some, None, ⊤}
use Rattle.std.specs.List.{AllByRecursion, range_with_len}
use Rattle.arrow_types.specs.TypeData.{TypeData}
use Rattle.arrow_buffers.specs.Bits.{Bits, plain, needed_mask}
use Rattle.arrow_flat.specs.Primitives.{valid_at}
use Rattle.arrow_flat.specs.Slots.{Slot}
use Rattle.arrow_layout.specs.Denote.{denote}
use Rattle.arrow_layout.specs.Forms.{form_of}
use Rattle.arrow_layout.specs.Layouts.{Layout, type_of}
use Rattle.arrow_layout.specs.SlotsOf.{fill}

-- What stands at a place, and another where there is no position.
abbrev pub pick : {A : Type 0} → A → List A → Option ℕ → A
pick d xs None = d
pick d xs (Some i) = get_or xs i d

abbrev pub picks : {A : Type 0} → A → List A → List (Option ℕ) → List A
picks d xs ps = map (pick d xs) ps

-- The slots of the type that stand at places of a layout.
abbrev pub picked : TypeData → Layout → List (Option ℕ) → List Slot
picked t l ps = picks (fill t) (denote l) ps

-- The place is one of n positions, or none.
abbrev pub IsPlace : ℕ → Option ℕ → Type 0
IsPlace n None = ⊤
IsPlace n (Some i) = i < n

abbrev pub ArePlaces : ℕ → List (Option ℕ) → Type 0
ArePlaces n ps = AllByRecursion (IsPlace n) ps

-- The type is laid out as that of the layout: outer extensions may differ.
abbrev pub IsTypeFor : TypeData → Layout → Type 0
IsTypeFor t l = form_of t ≡ form_of (type_of l)

-- n positions from a on
abbrev pub span : ℕ → ℕ → List (Option ℕ)
span a n = map Some (range_with_len a n)

-- Whether a place has a position whose bit isn't unset.
abbrev pub valid_place : Option Bits → Option ℕ → Bool
valid_place m None = false
valid_place m (Some i) = valid_at m i

-- The canonical mask of slots at places, where a mask alone makes nulls.
abbrev pub picked_mask : Option Bits → List (Option ℕ) → Option Bits
picked_mask m ps = needed_mask (plain (map (valid_place m) ps))
