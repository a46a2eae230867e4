use Rattle.std.proofs.lemmas.Bool.{false≢true}
use Rattle.arrow_equal.proofs.OtherKinds.{not_bool}
use Rattle.arrow_equal.proofs.kinds.is_bool.Goals as goal

pub returns-in_default : goal.returns-in_default
returns-in_default c = (λ t. absurd (false≢true t), λ e. absurd (not_bool c.args.bit c.args.other c.in_default.not-Bool e))
