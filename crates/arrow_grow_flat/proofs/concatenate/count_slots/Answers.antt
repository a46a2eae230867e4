use Rattle.std.proofs.Common.{ap, arith}
use Rattle.arrow_layout.specs.Layouts.{length_of}
use Rattle.arrow_grow_flat.proofs.JoinedBits.{total_at}
use Rattle.arrow_grow_flat.proofs.concatenate.count_slots.Goals as goal

pub returns-in-None : goal.returns-in-None
returns-in-None c =
    let d = c.array-item.result in
    omega (arith, c.in-None.ensures, c.len.ensures, c.loop-array.invariant.total, total_at c.args.arrays.now c.loop-array.array-index d c.loop-array-test.true, ap length_of c.array-item.is)
