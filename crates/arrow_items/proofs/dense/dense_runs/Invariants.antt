use Rattle.std.proofs.Common.{◌≡◌, ℕ, List, [], length, map, flat_map, replicate, take}
use Rattle.arrow_types.specs.Select.{nat_of}
use Rattle.arrow_layout.specs.WellFormed.{AllNamed}
use Rattle.arrow_canon.specs.Runs.{places}
use Rattle.arrow_items.specs.Dealt.{AllWithin, AreDealt, runs_of}
use Rattle.arrow_items.specs.Unions.{dense_places}
use Rattle.arrow_items.proofs.dense.dense_runs.Given as goal

abbrev pub invariant-loop-run : goal.invariant-loop-run
invariant-loop-run l =
    let of_field = dense_places l.fields (map nat_of l.offsets) l.first in
    (length l.lists.items ≡ l.count) × AreDealt (λ j. flat_map (of_field j) (places (take l.run-index l.runs))) (replicate l.count []) (runs_of l.lists.items)
    × ((lengths : List ℕ) → AllNamed lengths l.fields (map nat_of l.offsets) → AllWithin lengths (runs_of l.lists.items))
