use Rattle.std.proofs.Common.{◌≤◌, take}
use Rattle.arrow_layout.specs.FitsHere.{HaveLengths}
use Rattle.arrow_layout.specs.Layouts.{layouts}
use Rattle.arrow_choice.proofs.union_parts.are_long.Given as goal

abbrev pub invariant-loop-array : goal.invariant-loop-array
invariant-loop-array l = HaveLengths (λ n. l.slots ≤ n) (layouts (take l.array-index l.arrays))
