use Rattle.arrow_gather.proofs.MetValues.{none_keyed}
use Rattle.arrow_gather.proofs.distinct_values.KeyedSlots.new.Goals as goal

pub returns : goal.returns
returns c =
    λ l. none_keyed l (record { values = c.new.result; keys = c.new-2.result; validity = c.new-3.result }) (c.new.ensures l) c.new-2.ensures.items c.new-3.ensures
