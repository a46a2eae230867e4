-- The slots of an array by position, and their spellings one after the other.
use Rattle.std.specs.Prelude.{ℕ, zero, suc, ◌+◌, List, [], ◌++◌, get_or}
use Rattle.arrow_flat.specs.Slots.{Slot, null}
use Rattle.arrow_layout.specs.Denote.{denote}
use Rattle.arrow_layout.specs.Layouts.{Layout}
use Rattle.arrow_layout.specs.Spelling.{slot_bytes}

unfoldable pub slot_at : Layout → ℕ → Slot
slot_at l i = get_or (denote l) i null

-- The spellings of n slots from the position a on.
unfoldable pub spellings : Layout → ℕ → ℕ → List ℕ
spellings l a zero = []
spellings l a (suc n) = spellings l a n ++ slot_bytes (slot_at l (a + n))
