use Rattle.std.proofs.Common.{◌≡◌, take}
use Rattle.arrow_flat.specs.Primitives.{slots}
use Rattle.arrow_canon.specs.Picks.{picks}
use Rattle.arrow_canon.specs.Runs.{places}
use Rattle.arrow_canon.specs.Steps.{values_or}
use Rattle.arrow_canon.proofs.primitive.picked_values.Given as goal

abbrev pub invariant-loop-run : goal.invariant-loop-run
invariant-loop-run g l = l.values.items ≡ picks g.T.NativeType.zero (values_or g.T.NativeType.zero (slots l.fn.array)) (places (take l.run-index l.runs))
