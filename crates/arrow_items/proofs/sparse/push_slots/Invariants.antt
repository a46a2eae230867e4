use Rattle.std.proofs.Common.{◌≡◌, ◌++◌, ◌+◌, ◌-◌, ◌≤◌, length, map}
use Rattle.arrow_canon.specs.Picks.{span}
use Rattle.arrow_canon.specs.Runs.{places, AreWithin}
use Rattle.arrow_items.specs.Unions.{sparse_place}
use Rattle.arrow_items.proofs.sparse.push_slots.Given as goal

abbrev pub invariant-loop-i : goal.invariant-loop-i
invariant-loop-i l =
    (places l.picked.items ≡ places l.initial.picked.items ++ map (sparse_place l.fields l.shift l.field) (span l.start (l.i - l.start)))
    × (AreWithin (l.shift + length l.fields) l.initial.picked.items → AreWithin (l.shift + length l.fields) l.picked.items) × (l.start ≤ l.i)
