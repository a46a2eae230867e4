use Rattle.std.proofs.Common.{arith, ap, sym, ◌∙◌, Some}
use Rattle.std.specs.Prelude.{map}
use Rattle.serde_json.specs.View.{view}
use Rattle.arrow_flat.specs.Natives.{octets}
use Rattle.type_json.proofs.Walks.{traverse_map-none, traverse_map-more}
use Rattle.column_grammar.specs.Reads.{view_in}
use Rattle.column_read.proofs.view.view_list.Goals as goal

pub returns-in_default : goal.returns-in_default
returns-in_default c = λ _.
    let read = view_in (map octets c.args.buffers.now) in
    traverse_map-none view read c.args.list.now c.loop-item.item-index c.item-item.result (omega arith) (ap (λ y. read (view y)) (sym c.item-item.is) ∙ sym c.in_default.ensures)

pub loop-item-preserved : goal.loop-item-preserved
loop-item-preserved c =
    let read = view_in (map octets c.args.buffers.now) in
    traverse_map-more view read c.args.list.now c.loop-item.item-index c.item-item.result c.loop-item.views.items c.in-Some.view (omega arith) c.loop-item.invariant
    (ap (λ y. read (view y)) (sym c.item-item.is) ∙ sym c.in-Some.ensures)
    ∙ ap Some (sym c.in_ok-push.ensures.items)
