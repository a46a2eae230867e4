-- What a slot that isn't null is made of.
use Rattle.std.specs.Prelude.{◌≡◌, ℕ, ◌+◌, ◌<◌, ◌≤◌, List, [], ◌∷◌, map, take, drop, get_or, ⊤}
use Rattle.arrow_flat.specs.Natives.{octets}
use Rattle.arrow_flat.specs.Slots.{null, bool, bytes, items, parts, chosen, slots_of}
use Rattle.arrow_layout.specs.Denote.{denote, under}
use Rattle.arrow_layout.specs.Layouts.{Layout, layouts, length_of}
use Rattle.arrow_layout.specs.NodeCount.{node_count, node_counts}
use Rattle.arrow_meaning.specs.Nodes.{primitive_node_layout}
use Rattle.arrow_scalar.specs.Spellings.{slot_at}
use Rattle.arrow_scalar.specs.declared.slot_parts.SlotParts.{SlotParts}
use Rattle.arrow_scalar.specs.declared.slot_parts.SlotParts.TheVariants as made_of

-- Each array has a slot at the position.
abbrev pub AllHave : ℕ → List Layout → Type 0
AllHave i [] = ⊤
AllHave i (l ∷ ls) = (i < length_of l) × AllHave i ls

-- The slot at the position is made of these parts, which stand in arrays below its own.
abbrev pub IsMadeOf : SlotParts → Layout → ℕ → Type 0
IsMadeOf (made_of.Bool b) l i = slot_at l i ≡ bool b
IsMadeOf (made_of.Number a) l i =
    (i < length_of (primitive_node_layout a.now)) × (slot_at l i ≡ get_or (under (primitive_node_layout a.now)) i null)
IsMadeOf (made_of.Bytes bs) l i = slot_at l i ≡ bytes (octets bs.now)
IsMadeOf (made_of.Items c start n) l i =
    (start + n ≤ length_of c.now) × (node_count c.now < node_count l) × (slot_at l i ≡ items (slots_of (take n (drop start (denote c.now)))))
IsMadeOf (made_of.Row cs) l i =
    AllHave i cs.now × (node_counts (layouts cs.now) < node_count l) × (slot_at l i ≡ parts (slots_of (map (λ c. slot_at c i) cs.now)))
IsMadeOf (made_of.Named c j) l i = (j < length_of c.now) × (node_count c.now < node_count l) × (slot_at l i ≡ slot_at c.now j)
IsMadeOf (made_of.Chosen number c j) l i = (j < length_of c.now) × (node_count c.now < node_count l) × (slot_at l i ≡ chosen number (slot_at c.now j))
