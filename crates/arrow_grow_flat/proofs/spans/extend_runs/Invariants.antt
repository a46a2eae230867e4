use Rattle.std.proofs.Common.{◌-◌, ◌≤◌, map}
use Rattle.arrow_layout.specs.Cut.{part}
use Rattle.arrow_grow_flat.specs.Spans.{AppendsValues, IsPrefixOf, slot_values}
use Rattle.arrow_grow_flat.proofs.spans.extend_runs.Given as goal

abbrev pub invariant-loop-from : goal.invariant-loop-from
invariant-loop-from g l =
    let number = g.O.Offset.number in
    record {
      begun : l.start ≤ l.from;
      within : l.from ≤ l.end;
      appends : AppendsValues number l.fn.offsets l.fn.values.items (part l.start (l.from - l.start) (slot_values number l.source)) l.offsets l.values.items;
      offsets_stay : IsPrefixOf (map number l.fn.offsets) (map number l.offsets);
      values_stay : IsPrefixOf l.fn.values.items l.values.items;
    }

abbrev pub decreases-loop-from : goal.decreases-loop-from
decreases-loop-from g l = l.end - l.from
