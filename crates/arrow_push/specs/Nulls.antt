-- Which slots are null, and what a mask says of them.
use Rattle.std.specs.Prelude.{◌≡◌, Bool, true, List, map, Option, Some, None}
use Rattle.std.specs.List.{AllByRecursion}
use Rattle.arrow_flat.specs.Slots.{Slot, null, is_valid}

abbrev pub IsNull : Slot → Type 0
IsNull y = y ≡ null

-- No slot is null.
abbrev pub AreValid : List Slot → Type 0
AreValid ys = AllByRecursion (λ y. is_valid y ≡ true) ys

-- A mask states which slots are null; without one none is.
abbrev pub StatesNulls : Option (List Bool) → List Slot → Type 0
StatesNulls None ys = AreValid ys
StatesNulls (Some bits) ys = bits ≡ map is_valid ys
