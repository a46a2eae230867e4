use Rattle.std.proofs.Common.{◌≡◌}
use Rattle.arrow_layout.specs.NullLayout.{count_from}
use Rattle.arrow_meaning.proofs.null_parts.positions.Given as goal

abbrev pub invariant-loop-i : goal.invariant-loop-i
invariant-loop-i l = l.offsets.items ≡ count_from 0 l.i
