use Rattle.std.proofs.Common.{◌≡◌, false, get_or, arith, refl, sym, ◌∙◌}
use Rattle.std.specs.Prelude.{nat_eq}
use Rattle.std.proofs.lemmas.Bool.{false≢true}
use Rattle.arrow_canonical.specs.Filled.{IsFilledAt}
use Rattle.arrow_canonical.proofs.Nulls.{each_next}
use Rattle.arrow_canonical.proofs.fill.others_are_like.Goals as goal

pub loop-i-preserved : goal.loop-i-preserved
loop-i-preserved c =
    each_next (λ k. nat_eq (get_or c.args.fields.now k 0) c.args.j ≡ false → IsFilledAt c.args.child.now k) c.loop-i.i c.loop-i.invariant (c.is_selected_or_like.ensures.0 c.if-not-is_selected_or_like.false)

pub returns-then-not-is_selected_or_like : goal.returns-then-not-is_selected_or_like
returns-then-not-is_selected_or_like c =
    (λ t. absurd (false≢true t), λ h. sym c.if-not-is_selected_or_like.true ∙ c.is_selected_or_like.ensures.1 (h c.loop-i.i (omega arith)))

pub returns : goal.returns
returns c = (λ t. λ i w v. c.loop-i.invariant i (omega arith) v, λ h. refl)
