-- Parts to which those of picked slots are appended.
use Rattle.std.specs.Prelude.{ℕ, List, ◌++◌}
use Rattle.arrow_flat.specs.Slots.{Slot}
use Rattle.arrow_layout.specs.Forms.{form_of}
use Rattle.arrow_layout.specs.Layouts.{Layout, type_of}
use Rattle.arrow_layout.specs.SlotsOf.{HasSlots}
use Rattle.arrow_canon.specs.Picks.{picked}
use Rattle.arrow_canon.specs.Runs.{places}
use Rattle.arrow_canon.specs.declared.run.Run.{Run}
use Rattle.arrow_grow_flat.specs.Grown.{Room, copied}
use Rattle.arrow_growable.specs.Parts.{HasParts, PartsFit}
use Rattle.arrow_growable.specs.declared.parts.NestedParts.{NestedParts}

-- The slots with those that runs pick out of an array, n times.
abbrev pub taken : Layout → List Run → ℕ → List Slot → List Slot
taken l rs n s = s ++ copied n (picked (type_of l) l (places rs))

-- Parts of any slots become those of the slots with the picked ones, and are in their ranges.
abbrev pub HaveTaken : Layout → List Run → ℕ → NestedParts → NestedParts → Type 0
HaveTaken l rs n p q = (s : List Slot) → HasParts (form_of (type_of l)) s p → HasParts (form_of (type_of l)) (taken l rs n s) q × PartsFit (type_of l) q

-- Whatever slots the parts are of, they have no room with the picked ones.
abbrev pub HaveNoRoom : Layout → List Run → ℕ → NestedParts → Type 0
HaveNoRoom l rs n p = (s : List Slot) → HasParts (form_of (type_of l)) s p → Room (type_of l) (taken l rs n s) → ⊥
