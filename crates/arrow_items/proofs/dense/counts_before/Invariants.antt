use Rattle.std.proofs.Common.{◌≡◌, ◌^◌, [], map, pos, take, length}
use Rattle.std.specs.List.{AllByRecursion}
use Rattle.arrow_types.specs.Carried.{IsBelow}
use Rattle.arrow_layout.specs.Canon.{counts_after}
use Rattle.arrow_items.specs.Dealt.{AreCounts}
use Rattle.arrow_items.proofs.dense.counts_before.Given as goal

abbrev pub invariant-loop-field : goal.invariant-loop-field
invariant-loop-field l =
    (l.offsets.items ≡ map pos (counts_after [] (take l.field-index l.fields))) × AreCounts l.counts.items (take l.field-index l.fields)
    × (length l.counts.items ≡ l.count) × AllByRecursion (IsBelow (2 ^ 31)) l.offsets.items
