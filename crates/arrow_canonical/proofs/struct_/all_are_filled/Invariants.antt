use Rattle.std.proofs.Common.{◌≡◌, ℕ, ◌<◌, get_or}
use Rattle.std.specs.Option.{option_copied}
use Rattle.arrow_layout.specs.Layouts.{Layout}
use Rattle.arrow_canonical.specs.Filled.{NullsAreFilled}
use Rattle.arrow_canonical.proofs.struct_.all_are_filled.Given as goal

abbrev pub invariant-loop-k : goal.invariant-loop-k
invariant-loop-k l = (k : ℕ) → k < l.k → (c : Layout) → c ≡ get_or l.children k c → NullsAreFilled (option_copied l.validity) 1 l.length c
