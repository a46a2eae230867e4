use Rattle.std.proofs.Common.{◌≡◌, ◌*◌, take, flat_map}
use Rattle.arrow_canon.specs.Runs.{places, AreWithin}
use Rattle.arrow_items.specs.Items.{chunk_places}
use Rattle.arrow_items.proofs.fixed_size_list.chunk_runs.Given as goal

abbrev pub invariant-loop-run : goal.invariant-loop-run
invariant-loop-run l =
    (places l.items.items ≡ flat_map (chunk_places l.size) (places (take l.run-index l.runs)))
    × AreWithin (l.slots * l.size) l.items.items
