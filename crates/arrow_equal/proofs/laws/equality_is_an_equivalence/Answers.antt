use Rattle.std.proofs.Common.{refl, sym, ◌∙◌}
use Rattle.arrow_equal.proofs.laws.equality_is_an_equivalence.Goals as goal

pub returns-clause-reflexive : goal.returns-clause-reflexive
returns-clause-reflexive c = λ l. (refl, refl)

pub returns-clause-symmetric : goal.returns-clause-symmetric
returns-clause-symmetric c = λ l r e. (sym e.0, sym e.1)

pub returns-clause-transitive : goal.returns-clause-transitive
returns-clause-transitive c = λ l m r e f. (e.0 ∙ f.0, e.1 ∙ f.1)
