use Rattle.std.proofs.Common.{◌≡◌, take}
use Rattle.arrow_scalar.proofs.parts.same_views.Given as goal

abbrev pub invariant-loop-i : goal.invariant-loop-i
invariant-loop-i l = take l.i l.lhs ≡ take l.i l.rhs
