use Rattle.std.proofs.Common.{◌≡◌, ◌<◌, map, sum, take}
use Rattle.arrow_types.specs.Select.{nat_of}
use Rattle.arrow_layout.specs.Canon.{offsets}
use Rattle.arrow_canon.specs.Runs.{places}
use Rattle.arrow_items.specs.Items.{item_count}
use Rattle.arrow_items.proofs.list.offsets_of_runs.Given as goal

abbrev pub invariant-loop-run : goal.invariant-loop-run
invariant-loop-run g l =
    (map g.O.Offset.number l.ends ≡ offsets (map (item_count (map nat_of (map g.O.Offset.number l.offsets))) (places (take l.run-index l.runs))))
    × (sum (map (item_count (map nat_of (map g.O.Offset.number l.offsets))) (places (take l.run-index l.runs))) < g.O.Offset.limit)
