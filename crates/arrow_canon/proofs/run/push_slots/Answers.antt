use Rattle.std.proofs.Common.{◌++◌, ◌∷◌, [], Some, ap, arith, ◌∙◌}
use Rattle.arrow_canon.proofs.Places.{span_step}
use Rattle.arrow_canon.proofs.run.push_slots.Goals as goal

pub loop-i-preserved : goal.loop-i-preserved
loop-i-preserved c = (
  c.in_ok-push.ensures.items ∙ ap (λ ps. ps ++ Some c.loop-i.i ∷ []) c.loop-i.invariant.0 ∙ span_step c.args.positions.now.items c.args.start c.loop-i.i c.loop-i.invariant.1,
  omega (arith, c.loop-i.invariant.1),
)
