use Rattle.std.proofs.Common.{arith}
use Rattle.arrow_views.proofs.Packed.{long_counted, long_fits, long_total}
use Rattle.arrow_views.proofs.packer.long_bytes.Goals as goal

pub overflow_add-total : goal.overflow_add-total
overflow_add-total g c =
    omega (arith, long_fits (g.A.BinaryValues.values c.args.values.now) c.loop-i.i c.value_at.result.now c.loop-i.total c.long_length-total.result c.value_at.ensures c.loop-i.invariant c.long_length-total.ensures c.requires)

pub loop-i-preserved : goal.loop-i-preserved
loop-i-preserved g c =
    long_counted (g.A.BinaryValues.values c.args.values.now) c.loop-i.i c.value_at.result.now c.loop-i.total c.long_length-total.result c.value_at.ensures c.loop-i.invariant c.long_length-total.ensures

pub returns : goal.returns
returns g c =
    long_total (g.A.BinaryValues.values c.args.values.now) c.loop-i.i c.loop-i.total (omega (arith, c.loop-i-test.false, c.value_count-i-end.ensures)) c.loop-i.invariant
