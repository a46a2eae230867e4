use Rattle.std.proofs.Common.{arith, sym}
use Rattle.serde_json.specs.View.{view}
use Rattle.column_grammar.specs.Values.{signed_in}
use Rattle.column_grammar.specs.Reads.{offset_bits}
use Rattle.column_read.proofs.Loops.{read_none, read_more}
use Rattle.column_read.proofs.binary.offset_list.Goals as goal

pub returns-in_default : goal.returns-in_default
returns-in_default g c = λ _.
    read_none view (signed_in (offset_bits g.O.Offset.IS_LARGE)) g.O.Offset.number c.args.list.now c.loop-item.item-index c.item-item.result (omega arith) c.item-item.is (sym c.in_default.ensures)

pub loop-item-preserved : goal.loop-item-preserved
loop-item-preserved g c =
    read_more view (signed_in (offset_bits g.O.Offset.IS_LARGE)) g.O.Offset.number c.args.list.now c.loop-item.item-index c.item-item.result c.loop-item.offsets.items c.push.new.self.items c.in-Some.offset (omega arith)
    c.loop-item.invariant c.item-item.is (sym c.in-Some.ensures) c.in_ok-push.ensures.items
