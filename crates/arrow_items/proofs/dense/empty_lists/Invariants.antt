use Rattle.std.proofs.Common.{◌≡◌, [], replicate}
use Rattle.arrow_items.specs.Dealt.{runs_of}
use Rattle.arrow_items.proofs.dense.empty_lists.Given as goal

abbrev pub invariant-loop : goal.invariant-loop
invariant-loop l = runs_of l.lists.items ≡ replicate l.counter []
