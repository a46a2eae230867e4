use Rattle.std.proofs.Common.{◌<◌, subst}
use Rattle.arrow_bytes.proofs.Windows.{values_count}
use Rattle.arrow_bytes.proofs.offset_array.RefOffsetArrayArrayAccessorRefSliceU8ByteString.value.Goals as goal

pub value_bytes-requires : goal.value_bytes-requires
value_bytes-requires g c = subst (λ k. c.args.i < k) (values_count g.O.Offset.number c.args.self.now) c.requires
