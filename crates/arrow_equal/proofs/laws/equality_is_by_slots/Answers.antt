use Rattle.std.proofs.Common.{ap, get_or}
use Rattle.arrow_flat.specs.Slots.{null}
use Rattle.arrow_equal.proofs.Ranges.{by_slots, lengths_same}
use Rattle.arrow_equal.specs.SlotAt.{slot_at}
use Rattle.arrow_equal.proofs.laws.equality_is_by_slots.Goals as goal

pub returns-clause-lengths : goal.returns-clause-lengths
returns-clause-lengths c = λ l r w v e. lengths_same l r w v e.1

pub returns-clause-slots : goal.returns-clause-slots
unfolding slot_at
returns-clause-slots c = λ l r e i. ap (λ xs. get_or xs i null) e.1

pub returns-clause-same : goal.returns-clause-same
returns-clause-same c = λ l r w v t n h. (t, by_slots l r w v n h)
