-- The slots of an array by position.
use Rattle.std.specs.Prelude.{ℕ, get_or}
use Rattle.arrow_flat.specs.Slots.{Slot, null}
use Rattle.arrow_layout.specs.Denote.{denote}
use Rattle.arrow_layout.specs.Layouts.{Layout}

unfoldable pub slot_at : Layout → ℕ → Slot
slot_at l i = get_or (denote l) i null
