use Rattle.std.proofs.Common.{◌≡◌}
use Rattle.arrow_types.specs.Metadata.{value_at}
use Rattle.arrow_types.proofs.metadata.value_of.Given as goal

-- the value is that among the entries that are left
abbrev pub invariant-loop-other : goal.invariant-loop-other
invariant-loop-other l = value_at l.key l.metadata.entries ≡ value_at l.key l.other-iterator
