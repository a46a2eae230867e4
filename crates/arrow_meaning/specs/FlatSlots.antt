-- The slots of the values that flat arrays read.
use Rattle.std.specs.Prelude.{ℕ, ℤ, List}
use Rattle.arrow_flat.specs.Natives.{octets}
use Rattle.arrow_flat.specs.Slots.{Slot, num, bytes}

-- Of a value of fixed width, given its numbers.
abbrev pub number_slot : {A : Type 0} → (A → List ℤ) → A → Slot
number_slot parts x = num (parts x)

-- Of a binary value or a string.
abbrev pub binary_slot : List ℕ → Slot
binary_slot bs = bytes (octets bs)
