use Rattle.std.proofs.Common.{◌<◌, ℕ, get_or}
use Rattle.std.specs.Prelude.{pos}
use Rattle.arrow_types.specs.Carried.{IsBelow}
use Rattle.arrow_choice.proofs.union_parts.are_type_numbers.Given as goal

abbrev pub invariant-loop-number : goal.invariant-loop-number
invariant-loop-number l = (k : ℕ) → k < l.number-index → IsBelow l.limit (get_or l.types k (pos 0))
