use Rattle.std.proofs.Common.{◌/◌, ap, sym, ◌∙◌, subst}
use Rattle.arrow_flat.specs.Primitives.{MaskHasLength}
use Rattle.arrow_flat.proofs.Pieces.{chunk_count}
use Rattle.arrow_bytes.specs.FixedSizeBinaries.{slot_count}
use Rattle.arrow_bytes.proofs.fixed_size_binary.RefFixedSizeBinaryArrayArrayAccessorRefSliceU8ByteString.len.Goals as goal

pub returns-clause-count : goal.returns-clause-count
returns-clause-count c =
    let a = c.args.self.now in
    ap (λ n. n / c.self.inside.size) c.len.ensures ∙ ap slot_count c.self.view_is ∙ sym (chunk_count a.size (slot_count a) a.values)

pub returns-clause-fits : goal.returns-clause-fits
returns-clause-fits c =
    let a = c.args.self.now in
    subst (MaskHasLength a.mask) (sym (chunk_count a.size (slot_count a) a.values))
    (subst (λ a. MaskHasLength a.mask (slot_count a)) c.self.view_is c.self.invariant.fits)
