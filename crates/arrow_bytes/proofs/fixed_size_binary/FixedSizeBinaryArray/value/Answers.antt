use Rattle.std.proofs.Common.{◌*◌, ◌/◌, ◌<◌, length, take, drop, slice_get, Some, ap, sym, ◌∙◌, subst}
use Rattle.arrow_bytes.specs.FixedSizeBinaries.{slot_count, values_of}
use Rattle.arrow_flat.proofs.Pieces.{chunk_at}
use Rattle.arrow_bytes.proofs.fixed_size_binary.FixedSizeBinaryArray.value.Goals as goal

pub returns : goal.returns
returns c =
    let a = c.self.inside in
    ap (λ a. slice_get (values_of a) c.args.i) (sym c.self.view_is)
    ∙ chunk_at a.size (length a.values / a.size) a.values c.args.i (subst (λ a. c.args.i < slot_count a) (sym c.self.view_is) c.requires)
    ∙ ap (λ bytes. Some (take a.size (drop (c.args.i * a.size) bytes))) (sym c.as_slice.ensures) ∙ ap Some (sym c.chunk.ensures)
