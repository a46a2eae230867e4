use Rattle.std.proofs.Common.{◌-◌, arith}
use Rattle.arrow_layout.specs.Masks.{valid_in}
use Rattle.arrow_nested.specs.Lists.{valid_list_values}
use Rattle.arrow_nested.proofs.NonNull.{null_slot, skip_last, unset}
use Rattle.arrow_nested.proofs.non_null.last_valid.Goals as goal

pub loop-i-preserved : goal.loop-i-preserved
loop-i-preserved g c =
    let l = c.args.array.now in
    let i = c.loop-i.i in
    let kept = c.loop-i.invariant in
    let back = kept.1 in
    let test = c.loop-i-test.true in
    let top = c.requires.1 in
    let null = unset c.is_null.result (valid_in l (i - 1)) c.is_null.ensures c.if-is_null.true in
    let none = null_slot l (i - 1) c.invariant.ensures.lists c.invariant.ensures.well_formed (omega (arith, test, back, top)) null in
    (omega (arith, test), omega (arith, back), skip_last (valid_list_values l) c.args.front i _ none test kept.2)
