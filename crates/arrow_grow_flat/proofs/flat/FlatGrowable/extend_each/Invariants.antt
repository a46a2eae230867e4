use Rattle.arrow_layout.specs.Cut.{part}
use Rattle.arrow_grow_flat.specs.Grown.{Keeps, HasMore, copied, source}
use Rattle.arrow_grow_flat.proofs.flat.FlatGrowable.extend_each.Given as goal

abbrev pub invariant-loop-copy : goal.invariant-loop-copy
invariant-loop-copy g l = record {
  keeps : Keeps l.initial.self l.self;
  more : HasMore l.initial.self (copied l._copy (part l.start l.len (source l.initial.self l.index))) l.self;
}
