use Rattle.std.proofs.Common.{◌<◌, sym, ◌∙◌, ap, subst}
use Rattle.arrow_flat.specs.Primitives.{MaskHasLength}
use Rattle.arrow_flat.proofs.Pieces.{chunk_count}
use Rattle.arrow_bytes.specs.FixedSizeBinaries.{slot_count}
use Rattle.arrow_bytes.proofs.Windows.{has_bit}
use Rattle.arrow_bytes.proofs.fixed_size_binary.RefFixedSizeBinaryArrayArrayAccessorRefSliceU8ByteString.is_valid.Goals as goal

pub is_valid-requires : goal.is_valid-requires
is_valid-requires c =
    let a = c.args.self.now in
    has_bit c.self.inside.validity _ c.args.i c.self.invariant.fits
    (subst (λ k. c.args.i < k) (chunk_count a.size (slot_count a) a.values ∙ ap slot_count (sym c.self.view_is)) c.requires)

pub returns-clause-fits : goal.returns-clause-fits
returns-clause-fits c =
    let a = c.args.self.now in
    subst (MaskHasLength a.mask) (sym (chunk_count a.size (slot_count a) a.values))
    (subst (λ a. MaskHasLength a.mask (slot_count a)) c.self.view_is c.self.invariant.fits)
