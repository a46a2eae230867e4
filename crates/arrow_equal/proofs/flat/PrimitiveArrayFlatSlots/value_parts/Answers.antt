use Rattle.std.proofs.Common.{ap, sym, ◌∙◌}
use Rattle.arrow_flat.specs.Slots.{num}
use Rattle.arrow_equal.proofs.Slots.{number_at}
use Rattle.arrow_equal.proofs.flat.PrimitiveArrayFlatSlots.value_parts.Goals as goal

pub returns-clause-value : goal.returns-clause-value
returns-clause-value g c =
    number_at g.T.NativeType.parts c.args.self.now.values c.args.i c.value.result c.value.ensures ∙ ap num (sym c.numbers.ensures)
