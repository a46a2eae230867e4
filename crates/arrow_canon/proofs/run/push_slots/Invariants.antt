use Rattle.std.proofs.Common.{◌≡◌, ◌++◌, ◌-◌, ◌≤◌}
use Rattle.arrow_canon.specs.Picks.{span}
use Rattle.arrow_canon.proofs.run.push_slots.Given as goal

abbrev pub invariant-loop-i : goal.invariant-loop-i
invariant-loop-i l = (l.positions.items ≡ l.initial.positions.items ++ span l.fn.start (l.i - l.fn.start)) × (l.fn.start ≤ l.i)
