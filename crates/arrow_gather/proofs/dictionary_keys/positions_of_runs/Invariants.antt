use Rattle.std.proofs.Common.{◌≡◌, take}
use Rattle.arrow_meaning.specs.Nodes.{primitive_layout}
use Rattle.arrow_canon.specs.Runs.{places}
use Rattle.arrow_gather.specs.Distincts.{value_places}
use Rattle.arrow_gather.proofs.dictionary_keys.positions_of_runs.Given as goal

abbrev pub invariant-loop-run : goal.invariant-loop-run
invariant-loop-run g l = l.positions.items ≡ value_places (primitive_layout g.K.NativeType.parts l.keys) (places (take l.run-index l.runs))
