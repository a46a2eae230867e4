use Rattle.arrow_equal.proofs.Slots.{binary_at}
use Rattle.arrow_equal.proofs.flat.OffsetArrayFlatSlots.value_parts.Goals as goal

pub returns-clause-value : goal.returns-clause-value
returns-clause-value g c =
    binary_at g.O.Offset.number c.args.self.now c.args.i c.value_bytes.result.now c.value_bytes.ensures.value
