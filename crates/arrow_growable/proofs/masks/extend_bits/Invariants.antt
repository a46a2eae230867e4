use Rattle.std.proofs.Common.{◌≡◌, ◌++◌}
use Rattle.arrow_growable.specs.Parts.{repeated}
use Rattle.arrow_growable.proofs.masks.extend_bits.Given as goal

abbrev pub invariant-loop-copy : goal.invariant-loop-copy
invariant-loop-copy l = l.bits ≡ l.initial.bits ++ repeated l._copy l.picked.bits
