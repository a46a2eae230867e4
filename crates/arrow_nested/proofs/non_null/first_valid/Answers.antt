use Rattle.std.proofs.Common.{arith}
use Rattle.arrow_layout.specs.Masks.{valid_in}
use Rattle.arrow_nested.specs.Lists.{valid_list_values}
use Rattle.arrow_nested.proofs.NonNull.{null_slot, skip_first, unset}
use Rattle.arrow_nested.proofs.non_null.first_valid.Goals as goal

pub loop-i-preserved : goal.loop-i-preserved
loop-i-preserved g c =
    let l = c.args.array.now in
    let i = c.loop-i.i in
    let kept = c.loop-i.invariant in
    let front = kept.0 in
    let test = c.loop-i-test.true in
    let top = c.requires.1 in
    let null = unset c.is_null.result (valid_in l i) c.is_null.ensures c.if-is_null.true in
    let none = null_slot l i c.invariant.ensures.lists c.invariant.ensures.well_formed (omega (arith, test, top)) null in
    (omega (arith, front), omega (arith, test), skip_first (valid_list_values l) i c.args.back _ none test kept.2)
