use Rattle.std.proofs.Common.{◌≡◌, ◌+◌, length, map, take}
use Rattle.arrow_canon.specs.Runs.{places, AreWithin}
use Rattle.arrow_items.specs.Unions.{sparse_place}
use Rattle.arrow_items.proofs.sparse.sparse_runs.Given as goal

abbrev pub invariant-loop-run : goal.invariant-loop-run
invariant-loop-run l =
    (places l.picked.items ≡ map (sparse_place l.fields l.shift l.field) (places (take l.run-index l.runs)))
    × AreWithin (l.shift + length l.fields) l.picked.items
