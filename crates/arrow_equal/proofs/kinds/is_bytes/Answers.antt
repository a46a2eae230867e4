use Rattle.std.proofs.lemmas.Bool.{false≢true}
use Rattle.arrow_flat.specs.Natives.{octets}
use Rattle.arrow_equal.proofs.OtherKinds.{not_bytes}
use Rattle.arrow_equal.proofs.kinds.is_bytes.Goals as goal

pub returns-in_default : goal.returns-in_default
returns-in_default c = (λ t. absurd (false≢true t), λ e. absurd (not_bytes (octets c.args.value.now) c.args.other c.in_default.not-Bytes e))
