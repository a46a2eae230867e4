use Rattle.std.proofs.Common.{◌≡◌, ◌++◌, ◌-◌, ◌≤◌}
use Rattle.arrow_flat.specs.Primitives.{slots}
use Rattle.arrow_canon.specs.Picks.{picks, span}
use Rattle.arrow_canon.specs.Steps.{values_or}
use Rattle.arrow_canon.proofs.primitive.push_masked.Given as goal

abbrev pub invariant-loop-i : goal.invariant-loop-i
invariant-loop-i g l =
    let zero = g.T.NativeType.zero in
    (l.values.items ≡ l.initial.values.items ++ picks zero (values_or zero (slots l.fn.array)) (span l.fn.start (l.i - l.fn.start))) × (l.fn.start ≤ l.i)
