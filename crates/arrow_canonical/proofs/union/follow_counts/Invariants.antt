use Rattle.std.proofs.Common.{◌≡◌, [], map, take, length}
use Rattle.arrow_layout.specs.Canon.{counts_after}
use Rattle.arrow_types.specs.Select.{nat_of}
use Rattle.arrow_canonical.specs.Counted.{AreCounts}
use Rattle.arrow_canonical.proofs.union.follow_counts.Given as goal

abbrev pub invariant-loop-i : goal.invariant-loop-i
invariant-loop-i l =
    (map nat_of (take l.i l.offsets) ≡ counts_after [] (take l.i l.fields)) × AreCounts l.counts.items (take l.i l.fields) × (length l.counts.items ≡ length l.initial.counts.items)
