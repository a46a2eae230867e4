use Rattle.std.proofs.Common.{◌≡◌, ℕ, Some, take}
use Rattle.arrow_canon.specs.Runs.{places, AreWithin}
use Rattle.arrow_items.specs.Items.{kept_places}
use Rattle.arrow_items.proofs.kept.kept_runs.Given as goal

abbrev pub invariant-loop-run : goal.invariant-loop-run
invariant-loop-run l =
    (places l.kept.items ≡ kept_places (Some l.mask) (places (take l.run-index l.runs)))
    × ((n : ℕ) → AreWithin n l.runs → AreWithin n l.kept.items)
