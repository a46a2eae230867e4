use Rattle.std.proofs.Common.{arith}
use Rattle.arrow_canonical.proofs.Children.{child_long}
use Rattle.arrow_canonical.proofs.struct_.all_are_filled.Goals as goal

pub nulls_are_filled-requires-clause-within : goal.nulls_are_filled-requires-clause-within
nulls_are_filled-requires-clause-within c =
    omega (arith, child_long c.args.length c.args.children.now c.loop-k.k c.index-children-k.result c.requires.children c.loop-k-test.true c.index-children-k.is)
