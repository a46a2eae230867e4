use Rattle.std.proofs.Common.{refl, sym, ◌∙◌}
use Rattle.arrow_equal.proofs.Slots.{slot_null, slot_valid}
use Rattle.arrow_equal.specs.SlotParts.{slot_of}
use Rattle.arrow_equal.proofs.flat.FlatSlots.slot_parts.Goals as goal

pub returns-then-is_valid-clause-value : goal.returns-then-is_valid-clause-value
returns-then-is_valid-clause-value g c =
    let l = g.Self.FlatNode.layout c.args.self.now in
    slot_valid l l c.args.i (slot_of c.value_parts.result) refl c.invariant.ensures.sound c.requires (sym c.is_valid.ensures ∙ c.if-is_valid.true) c.value_parts.ensures.value

pub returns-else-is_valid-clause-value : goal.returns-else-is_valid-clause-value
returns-else-is_valid-clause-value g c =
    slot_null (g.Self.FlatNode.layout c.args.self.now) c.args.i c.invariant.ensures.sound c.requires (sym c.is_valid.ensures ∙ c.if-is_valid.false)
