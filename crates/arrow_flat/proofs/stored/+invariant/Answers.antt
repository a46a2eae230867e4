use Rattle.arrow_flat.proofs.NativeTypes.{others_carried}
use Rattle.arrow_flat.proofs.stored.+invariant.Goals as goal

pub returns-in_default : goal.returns-in_default
returns-in_default t c = others_carried c.args.dtype.now c.in_default.not-Decimal c.in_default.not-Extension
