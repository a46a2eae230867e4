use Rattle.std.proofs.Common.{◌<◌, sym, subst}
use Rattle.arrow_flat.proofs.Pieces.{chunk_count}
use Rattle.arrow_bytes.specs.FixedSizeBinaries.{slot_count}
use Rattle.arrow_bytes.proofs.fixed_size_binary.FixedSizeBinaryArray.get.Goals as goal

pub get-requires : goal.get-requires
get-requires c = let a = c.args.self.now in subst (λ k. c.args.i < k) (sym (chunk_count a.size (slot_count a) a.values)) c.requires
