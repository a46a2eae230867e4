use Rattle.std.proofs.Common.{ap, ◌∙◌}
use Rattle.arrow_items.specs.Dealt.{runs_of}
use Rattle.arrow_items.proofs.Deals.{empty_more}
use Rattle.arrow_items.proofs.dense.empty_lists.Goals as goal

pub loop-preserved : goal.loop-preserved
loop-preserved c = ap runs_of c.in_ok-push.ensures.items ∙ empty_more c.loop.lists.items c.new.result c.loop.counter c.loop.invariant c.new.ensures.items
