use Rattle.std.proofs.lemmas.Bool.{false≢true}
use Rattle.arrow_equal.specs.Numbers.{number_list}
use Rattle.arrow_equal.proofs.OtherKinds.{not_number}
use Rattle.arrow_equal.proofs.kinds.is_number.Goals as goal

pub returns-in_default : goal.returns-in_default
returns-in_default c = (λ t. absurd (false≢true t), λ e. absurd (not_number (number_list c.args.numbers) c.args.other c.in_default.not-Number e))
