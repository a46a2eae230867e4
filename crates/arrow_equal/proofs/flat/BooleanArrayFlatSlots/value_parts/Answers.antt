use Rattle.arrow_equal.proofs.Slots.{bool_at}
use Rattle.arrow_equal.proofs.flat.BooleanArrayFlatSlots.value_parts.Goals as goal

pub returns-clause-value : goal.returns-clause-value
returns-clause-value c = bool_at c.args.self.now.values.bits c.args.i c.value.result c.value.ensures
