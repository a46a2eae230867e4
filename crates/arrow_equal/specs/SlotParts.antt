-- What slots are made of.
use Rattle.std.specs.Prelude.{◌≡◌, ℕ, ◌+◌, ◌<◌, ◌≤◌, List, [], ◌∷◌, map, take, drop, ⊤}
use Rattle.arrow_flat.specs.Natives.{octets}
use Rattle.arrow_flat.specs.Slots.{Slot, null, bool, num, bytes, items, parts, chosen, slots_of}
use Rattle.arrow_layout.specs.Denote.{denote}
use Rattle.arrow_layout.specs.Layouts.{Layout, layouts, length_of, nulls}
use Rattle.arrow_layout.specs.NodeCount.{node_count, node_counts}
use Rattle.arrow_equal.specs.Numbers.{number_list}
use Rattle.arrow_equal.specs.SlotAt.{slot_at}
use Rattle.arrow_equal.specs.declared.slot_parts.SlotParts.{SlotParts}
use Rattle.arrow_equal.specs.declared.slot_parts.SlotParts.TheVariants as made_of

-- The n slots from the position a on.
abbrev pub slots_from : Layout → ℕ → ℕ → List Slot
slots_from l a n = take n (drop a (denote l))

-- The slot at the position of each array.
abbrev pub row_at : ℕ → List Layout → List Slot
row_at i ls = map (λ l. slot_at l i) ls

-- Each array has a slot at the position.
abbrev pub AllHave : ℕ → List Layout → Type 0
AllHave i [] = ⊤
AllHave i (l ∷ ls) = (i < length_of l) × AllHave i ls

-- The slot that is made of the parts.
abbrev pub slot_of : SlotParts → Slot
slot_of made_of.Null = null
slot_of (made_of.Bool b) = bool b
slot_of (made_of.Number ns) = num (number_list ns)
slot_of (made_of.Bytes bs) = bytes (octets bs.now)
slot_of (made_of.Items c a n) = items (slots_of (slots_from c.now a n))
slot_of (made_of.Row cs i) = parts (slots_of (row_at i cs.now))
slot_of (made_of.Chosen number c i) = chosen number (slot_at c.now i)

-- The arrays have the slots that are parts.
abbrev pub HasParts : SlotParts → Type 0
HasParts (made_of.Items c a n) = a + n ≤ length_of c.now
HasParts (made_of.Row cs i) = AllHave i cs.now
HasParts (made_of.Chosen number c i) = i < length_of c.now
HasParts _ = ⊤

-- How many arrays the parts stand in.
abbrev pub part_count : SlotParts → ℕ
part_count (made_of.Items c a n) = node_count c.now
part_count (made_of.Row cs i) = node_counts (layouts cs.now)
part_count (made_of.Chosen number c i) = node_count c.now
part_count _ = 0

-- The slot at the position is made of the parts, which stand in arrays below its own.
abbrev pub IsMadeOf : SlotParts → Layout → ℕ → Type 0
IsMadeOf p l i = HasParts p × (part_count p < node_count l) × (slot_at l i ≡ slot_of p)

-- Each slot is null, and there is no buffer.
abbrev pub IsNullArray : Layout → Type 0
IsNullArray (nulls t n) = ⊤
IsNullArray _ = ⊥
