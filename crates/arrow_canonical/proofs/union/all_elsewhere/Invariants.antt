use Rattle.std.proofs.Common.{◌≡◌, ℕ, ◌<◌, get_or}
use Rattle.arrow_layout.specs.Canonical.{FillElsewhere}
use Rattle.arrow_layout.specs.Denote.{denote}
use Rattle.arrow_layout.specs.Layouts.{Layout, type_of}
use Rattle.arrow_layout.specs.SlotsOf.{fill}
use Rattle.arrow_canonical.proofs.union.all_elsewhere.Given as goal

abbrev pub invariant-loop-k : goal.invariant-loop-k
invariant-loop-k l = (k : ℕ) → k < l.k → (c : Layout) → c ≡ get_or l.children k c → FillElsewhere (fill (type_of c)) k l.fields (denote c)
