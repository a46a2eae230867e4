use Rattle.arrow_grow_flat.specs.Grown.{HasMore, Keeps, copied}
use Rattle.arrow_growable.specs.NestedGrown.{taken_of}
use Rattle.arrow_growable.proofs.flat_runs.extend_flat.Given as goal

abbrev pub invariant-loop-copy : goal.invariant-loop-copy
invariant-loop-copy g l =
    let a = g.G.Growable.seen l.initial.growable in
    let b = g.G.Growable.seen l.growable in record {
      keeps : Keeps a b;
      more : HasMore a (copied l._copy (taken_of a l.index l.runs)) b;
    }
