use Rattle.std.proofs.Common.{take}
use Rattle.arrow_grow_flat.specs.Grown.{HasMore, Keeps}
use Rattle.arrow_growable.specs.NestedGrown.{taken_of}
use Rattle.arrow_growable.proofs.flat_runs.extend_once.Given as goal

abbrev pub invariant-loop-run : goal.invariant-loop-run
invariant-loop-run g l =
    let a = g.G.Growable.seen l.initial.growable in
    let b = g.G.Growable.seen l.growable in record {
      keeps : Keeps a b;
      more : HasMore a (taken_of a l.index (take l.run-index l.runs)) b;
    }
