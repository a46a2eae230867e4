use Rattle.std.proofs.Common.{add-one}
use Rattle.arrow_meaning.proofs.Children.{all_well_formed_step}
use Rattle.arrow_meaning.proofs.array.all_invariant.Goals as goal

pub loop-array-preserved : goal.loop-array-preserved
loop-array-preserved c =
    rw (add-one c.loop-array.array-index)
    (all_well_formed_step c.args.arrays.now c.loop-array.array-index c.array-item.result c.loop-array-test.true c.loop-array.invariant c.array-item.is c.invariant.ensures)
