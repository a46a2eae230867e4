use Rattle.std.proofs.Common.{◌≡◌, take}
use Rattle.arrow_scalar.proofs.native.same_values.Given as goal

abbrev pub invariant-loop-i : goal.invariant-loop-i
invariant-loop-i g l = take l.i l.lhs ≡ take l.i l.rhs
