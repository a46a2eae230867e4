use Rattle.std.proofs.Common.{sym, ◌∙◌}
use Rattle.std.proofs.lemmas.Bool.{false≢true}
use Rattle.arrow_scalar.proofs.Lists.{same_at}
use Rattle.arrow_scalar.proofs.native.same_values.Goals as goal

pub returns-then-not-is_same-clause-numbers : goal.returns-then-not-is_same-clause-numbers
returns-then-not-is_same-clause-numbers g c = (
  λ e. absurd (false≢true e),
  λ e. sym c.if-not-is_same.true ∙ c.is_same.ensures.numbers.1 (same_at g.T.NativeType.parts c.args.lhs.now c.args.rhs.now c.loop-i.i c.index-lhs-i.result c.index-rhs-i.result c.index-lhs-i.is c.index-rhs-i.is c.loop-i-test.true e),
)
