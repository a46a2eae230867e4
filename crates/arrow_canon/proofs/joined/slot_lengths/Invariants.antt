use Rattle.std.proofs.Common.{◌≡◌, None, take}
use Rattle.arrow_flat.specs.Primitives.{masked_values}
use Rattle.arrow_canon.specs.Picks.{picks}
use Rattle.arrow_canon.specs.Runs.{places}
use Rattle.arrow_canon.specs.Steps.{lengths}
use Rattle.arrow_canon.proofs.joined.slot_lengths.Given as goal

abbrev pub invariant-loop-run : goal.invariant-loop-run
invariant-loop-run g l =
    let a = g.A.ArrayAccessor in
    l.lengths.items ≡ lengths (picks None (masked_values (a.mask l.fn.array) (a.values l.fn.array)) (places (take l.run-index l.runs)))
