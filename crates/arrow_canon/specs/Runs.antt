-- Runs of places.
use Rattle.std.specs.Prelude.{ℕ, ◌+◌, ◌≤◌, List, length, flat_map, replicate, Option, Some, None, ⊤}
use Rattle.std.specs.List.{AllByRecursion}
use Rattle.arrow_types.specs.TypeData.{TypeData}
use Rattle.arrow_buffers.specs.Bits.{Bits}
use Rattle.arrow_layout.specs.Canon.{canon}
use Rattle.arrow_layout.specs.Layouts.{Layout}
use Rattle.arrow_canon.specs.Picks.{span, picked}
use Rattle.arrow_canon.specs.declared.run.Run.{Run}
use Rattle.arrow_canon.specs.declared.run.Run.TheVariants.{Slots, Fill}

-- The places that a run takes.
abbrev pub places_of : Run → List (Option ℕ)
places_of (Slots start n) = span start n
places_of (Fill n) = replicate n None

abbrev pub places : List Run → List (Option ℕ)
places rs = flat_map places_of rs

-- A run of slots ends at the n-th slot or before.
abbrev pub IsWithin : ℕ → Run → Type 0
IsWithin n (Slots start k) = start + k ≤ n
IsWithin n (Fill k) = ⊤

abbrev pub AreWithin : ℕ → List Run → Type 0
AreWithin n rs = AllByRecursion (IsWithin n) rs

-- The same of a mask's bits, if there is one.
abbrev pub IsWithinMask : Option Bits → Run → Type 0
IsWithinMask None r = ⊤
IsWithinMask (Some b) r = IsWithin (length b.bits) r

abbrev pub AreWithinMask : Option Bits → List Run → Type 0
AreWithinMask None rs = ⊤
AreWithinMask (Some b) rs = AreWithin (length b.bits) rs

-- The canonical layout of the slots that runs take of a layout.
abbrev pub canon_of_runs : TypeData → Layout → List Run → Layout
canon_of_runs t l rs = canon t (picked t l (places rs))
