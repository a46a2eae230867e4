use Rattle.std.proofs.Common.{◌≡◌, take}
use Rattle.arrow_flat.specs.Packs.{view_limit, packed_views}
use Rattle.arrow_views.proofs.Packed.{packed_first}
use Rattle.arrow_views.proofs.packer.push_values.Given as goal

abbrev pub invariant-loop-i : goal.invariant-loop-i
invariant-loop-i g l =
    (l.packer ≡ packed_first (g.A.BinaryValues.values l.fn.values) l.i)
    × (l.views.items ≡ packed_views view_limit (take l.i (g.A.BinaryValues.values l.fn.values)))
