use Rattle.std.proofs.Common.{ap, arith, sym, ◌∙◌}
use Rattle.std.specs.Prelude.{false, pred, refl}
use Rattle.std.proofs.lemmas.List.{length-map}
use Rattle.arrow_types.specs.Seen.{seen}
use Rattle.arrow_layout.specs.Layouts.{type_of}
use Rattle.arrow_layout.proofs.Unique.{carried_of}
use Rattle.arrow_bytes.proofs.Windows.{one_before}
use Rattle.arrow_nested.proofs.Lists.{lists_fit, map_type_fits}
use Rattle.arrow_nested.proofs.map.MapArray.new.Goals as goal

pub from_node-requires : goal.from_node-requires
from_node-requires c =
    let t = seen c.args.dtype in
    let l = c.args.field in
    let fits = c.requires in
    let known = map_type_fits t (type_of l) fits.parts.stored fits.parts.child fits.pair (carried_of l c.invariant.ensures) in
    let slots = ap pred (length-map c.args.offsets (λ o. o)) ∙ sym (one_before _ _ c.len_proxy.ensures.slots) in (
      lists_fit false _ t c.args.validity _ l known.0 known.1 refl c.len_proxy.ensures.sound fits.parts.within fits.parts.covers c.invariant-2.ensures (omega (arith, slots)),
      fits.parts.stored,
    )
