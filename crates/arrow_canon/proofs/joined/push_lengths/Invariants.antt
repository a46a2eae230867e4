use Rattle.std.proofs.Common.{◌≡◌, ◌++◌, ◌-◌, ◌≤◌, None}
use Rattle.arrow_flat.specs.Primitives.{masked_values}
use Rattle.arrow_canon.specs.Picks.{picks, span}
use Rattle.arrow_canon.specs.Steps.{lengths}
use Rattle.arrow_canon.proofs.joined.push_lengths.Given as goal

abbrev pub invariant-loop-i : goal.invariant-loop-i
invariant-loop-i g l =
    let a = g.A.ArrayAccessor in
    (l.counts.items ≡ l.initial.counts.items ++ lengths (picks None (masked_values (a.mask l.fn.array) (a.values l.fn.array)) (span l.fn.start (l.i - l.fn.start)))) × (l.fn.start ≤ l.i)
