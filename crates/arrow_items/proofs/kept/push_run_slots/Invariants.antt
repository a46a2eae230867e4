use Rattle.std.proofs.Common.{◌≡◌, ◌++◌, ◌+◌, ◌-◌, ◌≤◌, ℕ, Some}
use Rattle.arrow_canon.specs.Picks.{span}
use Rattle.arrow_canon.specs.Runs.{places, AreWithin}
use Rattle.arrow_items.specs.Items.{kept_places}
use Rattle.arrow_items.proofs.kept.push_run_slots.Given as goal

abbrev pub invariant-loop-i : goal.invariant-loop-i
invariant-loop-i l =
    (places l.kept.items ≡ places l.initial.kept.items ++ kept_places (Some l.mask) (span l.start (l.i - l.start)))
    × ((n : ℕ) → AreWithin n l.initial.kept.items → l.start + l.length ≤ n → AreWithin n l.kept.items)
