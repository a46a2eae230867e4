use Rattle.std.proofs.Common.{◌≡◌, take, replicate}
use Rattle.arrow_flat.specs.Natives.{octets}
use Rattle.arrow_canonical.proofs.fixed_size_binary.are_zero.Given as goal

abbrev pub invariant-loop-i : goal.invariant-loop-i
invariant-loop-i l = octets (take l.i l.bytes) ≡ replicate l.i 0
