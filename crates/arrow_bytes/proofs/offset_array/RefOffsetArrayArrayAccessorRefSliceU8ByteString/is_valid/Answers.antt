use Rattle.std.proofs.Common.{◌<◌, sym, ◌∙◌, ap, subst}
use Rattle.arrow_flat.specs.Primitives.{MaskHasLength}
use Rattle.arrow_bytes.specs.Binaries.{slot_count}
use Rattle.arrow_bytes.proofs.Windows.{fits_values, has_bit, values_count}
use Rattle.arrow_bytes.proofs.offset_array.RefOffsetArrayArrayAccessorRefSliceU8ByteString.is_valid.Goals as goal

pub is_valid-requires : goal.is_valid-requires
is_valid-requires g c =
    has_bit c.self.inside.validity _ c.args.i c.self.invariant.laid_out.fits
    (subst (λ k. c.args.i < k) (values_count g.O.Offset.number c.args.self.now ∙ ap slot_count (sym c.self.view_is)) c.requires)

pub returns-clause-fits : goal.returns-clause-fits
returns-clause-fits g c =
    fits_values g.O.Offset.number c.args.self.now
    (subst (λ a. MaskHasLength a.mask (slot_count a)) c.self.view_is c.self.invariant.laid_out.fits)
