use Rattle.std.proofs.Common.{ap, arith, length, ◌∙◌}
use Rattle.arrow_nested.specs.Lists.{lists_between, valid_list_values}
use Rattle.arrow_nested.proofs.NonNull.{all_between, non_null_count}
use Rattle.arrow_nested.proofs.non_null.NonNullValuesIter.new.Goals as goal

pub returns : goal.returns
returns g c =
    let l = c.args.array.now in
    ap (λ n. lists_between (valid_list_values l) 0 n) c.len-back.ensures ∙ all_between l c.invariant.ensures.lists c.invariant.ensures.well_formed

pub invariant_of-result : goal.invariant_of-result
invariant_of-result g c =
    let l = c.args.array.now in
    let all = ap length (returns g c) in
    let count = non_null_count l c.invariant.ensures.lists c.invariant.ensures.well_formed in
    let top = c.len-back.ensures in
    let nulls = c.null_count.ensures in
    (omega arith, omega (arith, top), omega (arith, all, count, top, nulls))
