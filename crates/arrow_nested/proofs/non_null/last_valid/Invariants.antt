use Rattle.std.proofs.Common.{◌≡◌, ◌≤◌}
use Rattle.arrow_nested.specs.Lists.{lists_between, valid_list_values}
use Rattle.arrow_nested.proofs.non_null.last_valid.Given as goal

abbrev pub invariant-loop-i : goal.invariant-loop-i
invariant-loop-i g l =
    (l.fn.front ≤ l.i) × (l.i ≤ l.fn.back)
    × (lists_between (valid_list_values l.fn.array) l.fn.front l.i ≡ lists_between (valid_list_values l.fn.array) l.fn.front l.fn.back)

abbrev pub decreases-loop-i : goal.decreases-loop-i
decreases-loop-i g l = l.i
