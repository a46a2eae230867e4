use Rattle.std.proofs.Common.{sym, ◌∙◌}
use Rattle.arrow_types.specs.Seen.{seen}
use Rattle.arrow_types.specs.TypeExact.{types_decide}
use Rattle.arrow_equal.proofs.compare.same_type.Goals as goal

pub returns : goal.returns
returns c =
    let d = types_decide (seen c.args.lhs.now) (seen c.args.rhs.now) in
    (λ t. d.0 (sym c.eq.ensures ∙ t), λ e. c.eq.ensures ∙ d.1 e)
