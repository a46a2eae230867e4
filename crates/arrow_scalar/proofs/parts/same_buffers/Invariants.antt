use Rattle.std.proofs.Common.{◌≡◌, map, take}
use Rattle.arrow_flat.specs.Natives.{octets}
use Rattle.arrow_scalar.proofs.parts.same_buffers.Given as goal

abbrev pub invariant-loop-i : goal.invariant-loop-i
invariant-loop-i l = map octets (take l.i l.lhs) ≡ map octets (take l.i l.rhs)
