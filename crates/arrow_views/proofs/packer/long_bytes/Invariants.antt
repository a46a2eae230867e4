use Rattle.std.proofs.Common.{◌≡◌, take}
use Rattle.arrow_flat.specs.Views.{longs}
use Rattle.arrow_flat.proofs.PackedViews.{total}
use Rattle.arrow_views.proofs.packer.long_bytes.Given as goal

abbrev pub invariant-loop-i : goal.invariant-loop-i
invariant-loop-i g l = l.total ≡ total (longs (take l.i (g.A.BinaryValues.values l.values)))
