-- What lists, large lists and maps that are made of picked slots have beside their child.
use Rattle.std.specs.Prelude.{◌≡◌, ℕ, ◌^◌, ◌<◌, cond, ℤ, Bool, true, false, List, flat_map, map, sum, ⊤}
use Rattle.arrow_types.specs.Select.{nat_of}
use Rattle.arrow_types.specs.declared.datatype.PhysicalType.{PhysicalType}
use Rattle.arrow_types.specs.declared.datatype.PhysicalType.TheVariants as physical
use Rattle.arrow_layout.specs.Canon.{offsets}
use Rattle.arrow_layout.specs.Denote.{validity_of}
use Rattle.arrow_layout.specs.WellFormed.{AreOffsetsTo}
use Rattle.arrow_meaning.specs.Nodes.{layout_of, list_offsets, node_physical}
use Rattle.arrow_meaning.specs.declared.node.Node.{Node}
use Rattle.arrow_canon.specs.Picks.{picked_mask}
use Rattle.arrow_canon.specs.Runs.{AreWithin, places}
use Rattle.arrow_canon.specs.declared.run.Run.{Run}
use Rattle.arrow_items.specs.Items.{item_count, item_places, kept_places}
use Rattle.arrow_gather.specs.declared.list.ListItems.{ListItems}
use Rattle.arrow_gather.specs.declared.list.ListOffsets.{ListOffsets}
use Rattle.arrow_gather.specs.declared.list.ListOffsets.TheVariants as offsets_of

abbrev pub IsListKind : PhysicalType → Type 0
IsListKind physical.List = ⊤
IsListKind physical.LargeList = ⊤
IsListKind physical.Map = ⊤
IsListKind _ = ⊥

-- Whether the offsets of a kind of lists have 64 bits.
abbrev pub is_large : PhysicalType → Bool
is_large physical.LargeList = true
is_large _ = false

abbrev pub kind_limit : PhysicalType → ℕ
kind_limit k = cond (is_large k) (2 ^ 63) (2 ^ 31)

abbrev pub offset_kind : ListOffsets → PhysicalType
offset_kind (offsets_of.List os) = physical.List
offset_kind (offsets_of.LargeList os) = physical.LargeList
offset_kind (offsets_of.Map os) = physical.Map

abbrev pub offset_numbers : ListOffsets → List ℤ
offset_numbers (offsets_of.List os) = map (λ o. o) os
offset_numbers (offsets_of.LargeList os) = map (λ o. o) os
offset_numbers (offsets_of.Map os) = map (λ o. o) os

-- The counts of the items of the slots that runs pick out of lists.
abbrev pub picked_counts : Node → List Run → List ℕ
picked_counts n rs = map (item_count (map nat_of (list_offsets (layout_of n)))) (kept_places (validity_of (layout_of n)) (places rs))

-- What the slots that runs pick out of lists have beside their child.
pub record AreListItems (n : Node) (rs : List Run) (p : ListItems) : Type 0 where
  pub items : places p.items.items ≡ flat_map (item_places (map nat_of (list_offsets (layout_of n)))) (kept_places (validity_of (layout_of n)) (places rs))
  pub inside : (top : ℕ) → AreOffsetsTo top (map nat_of (list_offsets (layout_of n))) → AreWithin top p.items.items
  pub offsets : offset_numbers p.offsets ≡ offsets (picked_counts n rs)
  pub kind : offset_kind p.offsets ≡ node_physical n
  pub mask : p.validity ≡ picked_mask (validity_of (layout_of n)) (places rs)
  pub fits : sum (picked_counts n rs) < kind_limit (node_physical n)
