use Rattle.std.proofs.Common.{◌≡◌, ℕ, ◌++◌, List, map}
use Rattle.arrow_layout.specs.Canon.{offsets}
use Rattle.arrow_growable.specs.Parts.{repeated}
use Rattle.arrow_growable.proofs.list.extend_ends.Given as goal

abbrev pub invariant-loop-copy : goal.invariant-loop-copy
invariant-loop-copy g l =
    (ns ms : List ℕ) → map g.O.Offset.number l.initial.ends ≡ offsets ns → map g.O.Offset.number l.offsets ≡ offsets ms → map g.O.Offset.number l.ends ≡ offsets (ns ++ repeated l._copy ms)
