use Rattle.std.proofs.Common.{sym, ◌∙◌}
use Rattle.arrow_equal.proofs.Ranges.{whole_differ, whole_same}
use Rattle.arrow_equal.proofs.compare.all_same.Goals as goal

pub returns-then-len : goal.returns-then-len
returns-then-len c =
    let same = c.len-then-len.ensures ∙ sym c.len.ensures ∙ c.if-len.true in
    whole_same c.args.lhs.now c.args.rhs.now c.len-then-len.result c.len-2.result c.ranges_same.result c.invariant.ensures c.invariant-2.ensures c.len-then-len.ensures c.len-2.ensures same c.ranges_same.ensures

pub returns-else-len : goal.returns-else-len
returns-else-len c =
    whole_differ c.args.lhs.now c.args.rhs.now c.len.result c.len-2.result c.invariant.ensures c.invariant-2.ensures c.len.ensures c.len-2.ensures c.if-len.false
