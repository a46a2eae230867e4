use Rattle.std.proofs.Common.{◌≡◌, ◌^◌, ◌≤◌, take}
use Rattle.arrow_flat.proofs.PackedViews.{total}
use Rattle.arrow_canon.proofs.view.are_within_limit.Given as goal

abbrev pub invariant-loop-i : goal.invariant-loop-i
invariant-loop-i g l = (l.total ≡ total (take l.i (g.A.BinaryValues.values l.fn.values))) × (l.total ≤ 2 ^ 62)
