use Rattle.std.proofs.Common.{◌≡◌, false, arith, refl, sym, ◌∙◌}
use Rattle.std.proofs.lemmas.Bool.{false≢true}
use Rattle.arrow_layout.specs.Masks.{valid_in}
use Rattle.arrow_canonical.specs.OwnForm.{IsZeroAt}
use Rattle.arrow_canonical.proofs.Nulls.{each_next, nulls_zero}
use Rattle.arrow_canonical.proofs.zeros.nulls_are_zero.Goals as goal

pub loop-i-preserved : goal.loop-i-preserved
loop-i-preserved g c =
    let l = g.T.FlatNode.layout c.args.array.now in
    each_next (λ k. valid_in l k ≡ false → IsZeroAt l k) c.loop-i.i c.loop-i.invariant (c.is_valid_or_zero.ensures.0 c.if-not-is_valid_or_zero.false)

pub returns-then-not-is_valid_or_zero : goal.returns-then-not-is_valid_or_zero
returns-then-not-is_valid_or_zero g c =
    let l = g.T.FlatNode.layout c.args.array.now in (
      λ t. absurd (false≢true t),
      λ h. sym c.if-not-is_valid_or_zero.true ∙ c.is_valid_or_zero.ensures.1 ((nulls_zero l c.invariant.ensures.sound).1 h c.loop-i.i (omega arith)),
    )

pub returns : goal.returns
returns g c =
    let l = g.T.FlatNode.layout c.args.array.now in
    (λ t. (nulls_zero l c.invariant.ensures.sound).0 (λ i w v. c.loop-i.invariant i (omega arith) v), λ h. refl)
