use Rattle.std.proofs.Common.{◌<◌, subst}
use Rattle.arrow_bytes.proofs.Windows.{values_count}
use Rattle.arrow_bytes.proofs.utf8.RefOffsetArrayViewStrArrayAccessorRefStrByteString.value.Goals as goal

pub value-requires : goal.value-requires
value-requires g c = subst (λ k. c.args.i < k) (values_count g.O.Offset.number c.args.self.now) c.requires
