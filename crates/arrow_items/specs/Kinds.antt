-- The canonical layout of slots picked out of lists and structs, by their mask, the other parts and the places.
use Rattle.std.specs.Prelude.{ℕ, List, map, flat_map, length, Option}
use Rattle.arrow_types.specs.TypeData.{TypeData}
use Rattle.arrow_buffers.specs.Bits.{Bits}
use Rattle.arrow_layout.specs.Canon.{canon, offsets}
use Rattle.arrow_layout.specs.Layouts.{Layout, lists, fixed_size_lists, structs, Layouts, no_layouts, child, type_of}
use Rattle.arrow_canon.specs.Picks.{picked, picked_mask}
use Rattle.arrow_items.specs.Items.{kept_places, item_count, item_places, chunk_places}

-- The canonical layout of a child at places.
abbrev pub child_picked : Layout → List (Option ℕ) → Layout
child_picked l ps = canon (type_of l) (picked (type_of l) l ps)

abbrev pub children_picked : Layouts → List (Option ℕ) → Layouts
children_picked no_layouts ps = no_layouts
children_picked (child l ls) ps = child (child_picked l ps) (children_picked ls ps)

-- Of a list, a large list or a map, by its offsets.
abbrev pub lists_picked : TypeData → Option Bits → List ℕ → Layout → List (Option ℕ) → Layout
lists_picked t m os l ps =
    lists t (picked_mask m ps) (offsets (map (item_count os) (kept_places m ps))) (child_picked l (flat_map (item_places os) (kept_places m ps)))

-- Of a fixed-size list, by its size.
abbrev pub chunks_picked : TypeData → Option Bits → ℕ → Layout → List (Option ℕ) → Layout
chunks_picked t m k l ps =
    fixed_size_lists t (picked_mask m ps) k (length ps) (child_picked l (flat_map (chunk_places k) (kept_places m ps)))

abbrev pub structs_picked : TypeData → Option Bits → Layouts → List (Option ℕ) → Layout
structs_picked t m ls ps = structs t (picked_mask m ps) (length ps) (children_picked ls (kept_places m ps))
