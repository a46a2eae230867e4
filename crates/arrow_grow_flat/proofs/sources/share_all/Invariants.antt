use Rattle.std.proofs.Common.{◌≡◌, map, take}
use Rattle.std.specs.List.{AllByRecursion}
use Rattle.arrow_layout.specs.WellFormed.{WellFormed}
use Rattle.arrow_grow_flat.proofs.sources.share_all.Given as goal

abbrev pub invariant-loop-array : goal.invariant-loop-array
invariant-loop-array g l = record {
  same : l.shared.items ≡ take l.array-index l.arrays;
  sound : AllByRecursion WellFormed (map g.A.FlatNode.layout (take l.array-index l.arrays));
}
