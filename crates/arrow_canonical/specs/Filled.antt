-- Where the children of an array have to be fillings, slot by slot.
use Rattle.std.specs.Prelude.{◌≡◌, ℕ, ◌+◌, ◌*◌, ◌<◌, nat_eq, false, List, get_or, length, Option}
use Rattle.arrow_buffers.specs.Bits.{Bits}
use Rattle.arrow_flat.specs.Primitives.{valid_at}
use Rattle.arrow_layout.specs.Layouts.{Layout, type_of}
use Rattle.arrow_layout.specs.SlotsOf.{fill}
use Rattle.arrow_equal.specs.SlotAt.{slot_at}

abbrev pub IsFilledAt : Layout → ℕ → Type 0
IsFilledAt l i = slot_at l i ≡ fill (type_of l)

-- The n slots from the position a on are fillings.
abbrev pub AreFilled : Layout → ℕ → ℕ → Type 0
AreFilled l a n = (j : ℕ) → j < n → IsFilledAt l (a + j)

-- The k slots that belong to each null of a mask of n slots are fillings.
abbrev pub NullsAreFilled : Option Bits → ℕ → ℕ → Layout → Type 0
NullsAreFilled m k n l = (i : ℕ) → i < n → valid_at m i ≡ false → AreFilled l (i * k) k

-- The slots at which the fields that are selected are others than j are fillings.
abbrev pub OthersAreFilled : List ℕ → ℕ → Layout → Type 0
OthersAreFilled fields j l = (i : ℕ) → i < length fields → nat_eq (get_or fields i 0) j ≡ false → IsFilledAt l i

-- Each child is a filling at the nulls of a mask of n slots.
abbrev pub AllFilled : Option Bits → ℕ → List Layout → Type 0
AllFilled m n ls = (k : ℕ) (l : Layout) → k < length ls → l ≡ get_or ls k l → NullsAreFilled m 1 n l
