use Rattle.std.proofs.Common.{◌<◌, subst}
use Rattle.arrow_flat.proofs.Pieces.{chunk_count}
use Rattle.arrow_bytes.specs.FixedSizeBinaries.{slot_count}
use Rattle.arrow_bytes.proofs.fixed_size_binary.RefFixedSizeBinaryArrayArrayAccessorRefSliceU8ByteString.value.Goals as goal

pub value-requires : goal.value-requires
value-requires c = let a = c.args.self.now in subst (λ k. c.args.i < k) (chunk_count a.size (slot_count a) a.values) c.requires
