use Rattle.std.proofs.Common.{arith}
use Rattle.arrow_canon.proofs.Views.{more_counted, too_many, not_too_many}
use Rattle.arrow_canon.proofs.view.are_within_limit.Goals as goal

pub returns-then-length-total : goal.returns-then-length-total
returns-then-length-total g c =
    too_many (g.A.BinaryValues.values c.args.values.now) c.loop-i.i c.value_at-length.result.now c.loop-i.total c.value_at-length.ensures c.loop-i.invariant.0 c.loop-i.invariant.1 c.if-length-total.true

pub loop-i-preserved : goal.loop-i-preserved
loop-i-preserved g c = (
  more_counted (g.A.BinaryValues.values c.args.values.now) c.loop-i.i c.value_at-length.result.now c.loop-i.total c.value_at-length.ensures c.loop-i.invariant.0,
  omega (arith, c.loop-i.invariant.1, c.if-length-total.false),
)

pub returns : goal.returns
returns g c =
    not_too_many (g.A.BinaryValues.values c.args.values.now) c.loop-i.i c.value_count-i-end.result c.loop-i.total c.value_count-i-end.ensures c.loop-i-test.false c.loop-i.invariant.0 c.loop-i.invariant.1
