use Rattle.std.proofs.Common.{◌≡◌, map, take}
use Rattle.arrow_layout.specs.Cut.{cut}
use Rattle.arrow_meaning.proofs.+cut.Given as goal

abbrev pub invariant-cut::sliced_all-loop-array : goal.invariant-cut::sliced_all-loop-array
invariant-cut::sliced_all-loop-array l = l.parts.items ≡ map (λ a. cut a l.offset l.length) (take l.array-index l.arrays)
