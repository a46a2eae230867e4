use Rattle.std.proofs.Common.{◌+◌, arith, refl, sym, ◌∙◌}
use Rattle.std.proofs.lemmas.Bool.{false≢true}
use Rattle.arrow_canonical.specs.Filled.{IsFilledAt}
use Rattle.arrow_canonical.proofs.Nulls.{each_next}
use Rattle.arrow_canonical.proofs.fill.are_like.Goals as goal

pub loop-i-preserved : goal.loop-i-preserved
loop-i-preserved c =
    each_next (λ k. IsFilledAt c.args.child.now (c.args.start + k)) c.loop-i.i c.loop-i.invariant (c.is_like.ensures.0 c.if-not-is_like.false)

pub returns-then-not-is_like : goal.returns-then-not-is_like
returns-then-not-is_like c = (λ t. absurd (false≢true t), λ h. sym c.if-not-is_like.true ∙ c.is_like.ensures.1 (h c.loop-i.i (omega arith)))

pub returns : goal.returns
returns c = (λ t. λ i w. c.loop-i.invariant i (omega arith), λ h. refl)
