-- What lists have of picked slots, from the parts of a node of lists.
use Rattle.std.proofs.Common.{◌≡◌, ℕ, ◌<◌, ℤ, List, flat_map, map, sum, ap, sym, ◌∙◌, subst, Option}
use Rattle.arrow_buffers.specs.Bits.{Bits}
use Rattle.arrow_types.specs.Select.{nat_of}
use Rattle.arrow_layout.specs.Canon.{offsets}
use Rattle.arrow_layout.specs.Denote.{validity_of}
use Rattle.arrow_layout.specs.Layouts.{Layout, lists}
use Rattle.arrow_layout.specs.WellFormed.{AreOffsetsTo}
use Rattle.arrow_types.specs.TypeData.{TypeData}
use Rattle.arrow_meaning.specs.Nodes.{layout_of, list_offsets, node_physical}
use Rattle.arrow_meaning.specs.declared.node.Node.{Node}
use Rattle.arrow_canon.specs.Picks.{picked_mask}
use Rattle.arrow_canon.specs.Runs.{AreWithin, places}
use Rattle.arrow_canon.specs.declared.run.Run.{Run}
use Rattle.arrow_items.specs.Items.{item_count, item_places, kept_places}
use Rattle.arrow_gather.specs.Lists.{AreListItems, kind_limit, offset_kind, offset_numbers}
use Rattle.arrow_gather.specs.declared.list.ListItems.{ListItems}

module _ (n : Node) (rs : List Run) (p : ListItems) (t : TypeData) (m k : Option Bits) (os : List ℤ) (c : Layout) (g : layout_of n ≡ lists t m os c) (e : k ≡ m) where
  abbrev Counts : Option Bits → List ℤ → List ℕ
  Counts x ys = map (item_count (map nat_of ys)) (kept_places x (places rs))

  pub list_items : places p.items.items ≡ flat_map (item_places (map nat_of os)) (kept_places k (places rs))
      → ((top : ℕ) → AreOffsetsTo top (map nat_of os) → AreWithin top p.items.items) → offset_numbers p.offsets ≡ offsets (Counts k os) → offset_kind p.offsets ≡ node_physical n
      → p.validity ≡ picked_mask k (places rs) → sum (Counts k os) < kind_limit (node_physical n) → AreListItems n rs p
  list_items items inside ends kind mask fits =
      let same : k ≡ validity_of (layout_of n) = e ∙ sym (ap validity_of g) in
      let numbers : os ≡ list_offsets (layout_of n) = sym (ap list_offsets g) in
      record {
        items = items ∙ ap (λ x. flat_map (item_places (map nat_of os)) (kept_places x (places rs))) same
            ∙ ap (λ ys. flat_map (item_places (map nat_of ys)) (kept_places (validity_of (layout_of n)) (places rs))) numbers;
        inside = subst (λ ys. (top : ℕ) → AreOffsetsTo top (map nat_of ys) → AreWithin top p.items.items) numbers inside;
        offsets = ends ∙ ap (λ x. offsets (Counts x os)) same ∙ ap (λ ys. offsets (Counts (validity_of (layout_of n)) ys)) numbers;
        kind = kind;
        mask = mask ∙ ap (λ x. picked_mask x (places rs)) same;
        fits = subst (λ ys. sum (Counts (validity_of (layout_of n)) ys) < kind_limit (node_physical n)) numbers (subst (λ x. sum (Counts x os) < kind_limit (node_physical n)) same fits);
      }
