use Rattle.std.proofs.Common.{◌≡◌, ◌*◌, false, length, get_or, arith, refl, sym, ◌∙◌}
use Rattle.std.proofs.lemmas.Bool.{false≢true}
use Rattle.arrow_canonical.specs.Filled.{AreFilled}
use Rattle.arrow_canonical.proofs.Fillings.{chunk_within}
use Rattle.arrow_canonical.proofs.Nulls.{each_next}
use Rattle.arrow_canonical.proofs.fill.unset_are_like.Goals as goal

pub is_set_or_like-requires-clause-within : goal.is_set_or_like-requires-clause-within
is_set_or_like-requires-clause-within c =
    chunk_within c.loop-i.i c.args.size (length c.args.bits.now.bits) _ (omega arith) c.requires.within

pub loop-i-preserved : goal.loop-i-preserved
loop-i-preserved c =
    each_next (λ k. get_or c.args.bits.now.bits k false ≡ false → AreFilled c.args.child.now (k * c.args.size) c.args.size) c.loop-i.i c.loop-i.invariant (c.is_set_or_like.ensures.0 c.if-not-is_set_or_like.false)

pub returns-then-not-is_set_or_like : goal.returns-then-not-is_set_or_like
returns-then-not-is_set_or_like c =
    (λ t. absurd (false≢true t), λ h. sym c.if-not-is_set_or_like.true ∙ c.is_set_or_like.ensures.1 (h c.loop-i.i (omega arith)))

pub returns : goal.returns
returns c = (λ t. λ i w v. c.loop-i.invariant i (omega arith) v, λ h. refl)
