use Rattle.std.proofs.Common.{◌≡◌, ◌-◌, ◌<◌, ◌≤◌, false, get_or, replicate}
use Rattle.arrow_layout.specs.Cut.{part}
use Rattle.arrow_grow_flat.proofs.spans.run_end.Given as goal

abbrev pub invariant-loop-to : goal.invariant-loop-to
invariant-loop-to l = record {
  bit : l.bit ≡ get_or l.mask.bits l.from false;
  some : l.from < l.to;
  within : l.to ≤ l.end;
  equal : part l.from (l.to - l.from) l.mask.bits ≡ replicate (l.to - l.from) l.bit;
}

abbrev pub decreases-loop-to : goal.decreases-loop-to
decreases-loop-to l = l.end - l.to
