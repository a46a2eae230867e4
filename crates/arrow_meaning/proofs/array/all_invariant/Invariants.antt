use Rattle.std.proofs.Common.{take}
use Rattle.arrow_layout.specs.FitsHere.{AllWellFormed}
use Rattle.arrow_layout.specs.Layouts.{layouts}
use Rattle.arrow_meaning.proofs.array.all_invariant.Given as goal

abbrev pub invariant-loop-array : goal.invariant-loop-array
invariant-loop-array l = AllWellFormed (layouts (take l.array-index l.arrays))
