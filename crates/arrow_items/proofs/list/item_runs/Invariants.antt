use Rattle.std.proofs.Common.{◌≡◌, ℕ, take, map, flat_map}
use Rattle.arrow_types.specs.Select.{nat_of}
use Rattle.arrow_layout.specs.WellFormed.{AreOffsetsTo}
use Rattle.arrow_canon.specs.Runs.{places, AreWithin}
use Rattle.arrow_items.specs.Items.{item_places}
use Rattle.arrow_items.proofs.list.item_runs.Given as goal

abbrev pub invariant-loop-run : goal.invariant-loop-run
invariant-loop-run g l =
    (places l.items.items ≡ flat_map (item_places (map nat_of (map g.O.Offset.number l.offsets))) (places (take l.run-index l.runs)))
    × ((top : ℕ) → AreOffsetsTo top (map nat_of (map g.O.Offset.number l.offsets)) → AreWithin top l.items.items)
