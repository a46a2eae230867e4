use Rattle.std.proofs.Common.{arith, refl}
use Rattle.column_grammar.specs.Writes.{view_value}
use Rattle.column_json.proofs.Tokens.{list_begun, list_more, list_put}
use Rattle.column_json.proofs.text.put_slots.Goals as goal

pub loop-slot-init : goal.loop-slot-init
loop-slot-init c = list_begun _

pub loop-slot-preserved : goal.loop-slot-preserved
loop-slot-preserved c = list_more view_value c.args.slots.now c.loop-slot.slot-index c.slot-item.result _ _ _ (omega arith) c.slot-item.is c.loop-slot.invariant c.in_ok-put_slot.ensures

pub returns : goal.returns
returns c =
    list_put view_value c.args.slots.now c.loop-slot.slot-index _ c.end_array.result _ _ _ _ c.in_ok-begin_array.ensures.ok c.in_ok-begin_array.ensures.room.0 c.loop-slot-test.false c.loop-slot.invariant c.end_array.ensures
    refl
