use Rattle.std.proofs.Common.{◌<◌, map, sum, ap, sym, subst}
use Rattle.std.specs.Option.{option_copied}
use Rattle.arrow_types.specs.Seen.{seen}
use Rattle.arrow_types.specs.Select.{nat_of}
use Rattle.arrow_meaning.specs.Nodes.{layout_of, node_physical}
use Rattle.arrow_canon.specs.Runs.{places}
use Rattle.arrow_items.specs.Items.{item_count, kept_places}
use Rattle.arrow_gather.specs.Lists.{kind_limit}
use Rattle.arrow_gather.specs.declared.list.ListOffsets.TheVariants as offsets_of
use Rattle.arrow_gather.proofs.ItemParts.{list_items}
use Rattle.arrow_gather.proofs.NodeKinds.{not_list}
use Rattle.arrow_gather.proofs.list.list_items.Goals as goal

pub unreachable-requires : goal.unreachable-requires
unreachable-requires c = not_list c.args.node.now c.in_default.not-List c.in_default.not-LargeList c.in_default.not-Map c.requires.lists

pub returns-in_ok-parts-in-List-clause-ok : goal.returns-in_ok-parts-in-List-clause-ok
returns-in_ok-parts-in-List-clause-ok c =
    let v = c.in-List in
    let p = c.in_ok-parts-in-List.ensures in
    list_items c.args.node.now c.args.runs.now record { items = c.in_ok-parts-in-List.parts.items; offsets = offsets_of.List c.in_ok-parts-in-List.parts.offsets; validity = c.in_ok-parts-in-List.parts.validity }
    (seen v.dtype) v.validity (option_copied c.as_ref.result) (map (λ o. o) v.offsets) v.child (ap layout_of v.is) c.as_ref.ensures.value
    p.items p.inside p.offsets (sym (ap node_physical v.is)) p.mask
    (subst (λ n. sum (map (item_count (map nat_of (map (λ o. o) v.offsets))) (kept_places (option_copied c.as_ref.result) (places c.args.runs.now))) < kind_limit (node_physical n)) (sym v.is) p.fits)

pub returns-in_ok-parts-in-LargeList-clause-ok : goal.returns-in_ok-parts-in-LargeList-clause-ok
returns-in_ok-parts-in-LargeList-clause-ok c =
    let v = c.in-LargeList in
    let p = c.in_ok-parts-in-LargeList.ensures in
    list_items c.args.node.now c.args.runs.now record { items = c.in_ok-parts-in-LargeList.parts.items; offsets = offsets_of.LargeList c.in_ok-parts-in-LargeList.parts.offsets; validity = c.in_ok-parts-in-LargeList.parts.validity }
    (seen v.dtype) v.validity (option_copied c.as_ref-in-LargeList.result) (map (λ o. o) v.offsets) v.child (ap layout_of v.is) c.as_ref-in-LargeList.ensures.value
    p.items p.inside p.offsets (sym (ap node_physical v.is)) p.mask
    (subst (λ n. sum (map (item_count (map nat_of (map (λ o. o) v.offsets))) (kept_places (option_copied c.as_ref-in-LargeList.result) (places c.args.runs.now))) < kind_limit (node_physical n)) (sym v.is) p.fits)

pub returns-in_ok-parts-in-Map-clause-ok : goal.returns-in_ok-parts-in-Map-clause-ok
returns-in_ok-parts-in-Map-clause-ok c =
    let v = c.in-Map in
    let p = c.in_ok-parts-in-Map.ensures in
    list_items c.args.node.now c.args.runs.now record { items = c.in_ok-parts-in-Map.parts.items; offsets = offsets_of.Map c.in_ok-parts-in-Map.parts.offsets; validity = c.in_ok-parts-in-Map.parts.validity }
    (seen v.dtype) v.validity (option_copied c.as_ref-in-Map.result) (map (λ o. o) v.offsets) v.child (ap layout_of v.is) c.as_ref-in-Map.ensures.value
    p.items p.inside p.offsets (sym (ap node_physical v.is)) p.mask
    (subst (λ n. sum (map (item_count (map nat_of (map (λ o. o) v.offsets))) (kept_places (option_copied c.as_ref-in-Map.result) (places c.args.runs.now))) < kind_limit (node_physical n)) (sym v.is) p.fits)
