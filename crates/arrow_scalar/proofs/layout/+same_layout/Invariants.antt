use Rattle.std.proofs.Common.{◌≡◌, take}
use Rattle.arrow_scalar.proofs.layout.+same_layout.Given as goal

abbrev pub invariant-all_same-loop-i : goal.invariant-all_same-loop-i
invariant-all_same-loop-i l = take l.i l.lhs ≡ take l.i l.rhs
