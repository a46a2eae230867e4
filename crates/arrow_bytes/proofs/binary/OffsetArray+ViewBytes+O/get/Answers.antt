use Rattle.std.proofs.Common.{◌<◌, sym, subst}
use Rattle.arrow_bytes.proofs.Windows.{values_count}
use Rattle.arrow_bytes.proofs.binary.OffsetArray+ViewBytes+O.get.Goals as goal

pub get-requires : goal.get-requires
get-requires g c = subst (λ k. c.args.i < k) (sym (values_count g.O.Offset.number c.args.self.now)) c.requires
