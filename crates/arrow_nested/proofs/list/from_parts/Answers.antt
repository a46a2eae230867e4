use Rattle.std.proofs.Common.{ap, arith, map, sym, ◌∙◌}
use Rattle.std.specs.Prelude.{pred}
use Rattle.std.proofs.lemmas.List.{length-map}
use Rattle.arrow_types.specs.Seen.{seen}
use Rattle.arrow_layout.specs.Layouts.{type_of}
use Rattle.arrow_layout.proofs.Unique.{carried_of}
use Rattle.arrow_bytes.proofs.Windows.{one_before}
use Rattle.arrow_meaning.specs.Nodes.{list_layout, physical_list}
use Rattle.arrow_nested.proofs.Lists.{list_node_sound, list_type_fits, lists_fit}
use Rattle.arrow_nested.proofs.list.from_parts.Goals as goal

pub from_node-requires : goal.from_node-requires
from_node-requires g c =
    let large = g.O.Offset.IS_LARGE in
    let t = seen c.args.dtype.now in
    let l = c.args.values.now in
    let os = map g.O.Offset.number c.args.offsets.now in
    let fits = c.requires in
    let known = list_type_fits large t (type_of l) fits.stored fits.child (carried_of l c.invariant.ensures) in
    let slots = ap pred (length-map c.args.offsets.now g.O.Offset.number) ∙ sym (one_before _ _ c.len_proxy.ensures.slots) in
    let here = lists_fit large g.O.Offset.limit t c.args.validity.now os l known.0 known.1 g.met.O.SizedOffset.same_limit c.len_proxy.ensures.sound fits.within fits.covers c.invariant-2.ensures (omega (arith, slots)) in
    list_node_sound _ (list_layout g.O.Offset.number c.args.dtype.now c.args.offsets.now l c.args.validity.now) (physical_list large) c.in_ok-node.ensures.same c.in_ok-node.ensures.kind here fits.stored
