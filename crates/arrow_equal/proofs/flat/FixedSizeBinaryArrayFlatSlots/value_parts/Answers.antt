use Rattle.arrow_equal.proofs.Slots.{fixed_binary_at}
use Rattle.arrow_equal.proofs.flat.FixedSizeBinaryArrayFlatSlots.value_parts.Goals as goal

pub returns-clause-value : goal.returns-clause-value
returns-clause-value c = fixed_binary_at c.args.self.now c.args.i c.value.result.now c.value.ensures
