use Rattle.std.proofs.Common.{◌≡◌}
use Rattle.arrow_equal.specs.SlotParts.{slots_from}
use Rattle.arrow_equal.proofs.slot_eq.same_slots.Given as goal

abbrev pub invariant-loop-i : goal.invariant-loop-i
invariant-loop-i g l = slots_from (g.T.FlatNode.layout l.lhs) 0 l.i ≡ slots_from (g.T.FlatNode.layout l.rhs) 0 l.i
