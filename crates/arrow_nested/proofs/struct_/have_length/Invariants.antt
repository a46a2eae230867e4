use Rattle.std.proofs.Common.{◌≡◌, take}
use Rattle.arrow_layout.specs.FitsHere.{HaveLengths}
use Rattle.arrow_layout.specs.Layouts.{layouts}
use Rattle.arrow_nested.proofs.struct_.have_length.Given as goal

abbrev pub invariant-loop-value : goal.invariant-loop-value
invariant-loop-value l = HaveLengths (λ k. k ≡ l.length) (layouts (take l.value-index l.values))
