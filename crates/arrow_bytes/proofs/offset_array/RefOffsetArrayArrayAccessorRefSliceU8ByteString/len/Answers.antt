use Rattle.std.proofs.Common.{ap, sym, ◌∙◌, subst}
use Rattle.arrow_flat.specs.Primitives.{MaskHasLength}
use Rattle.arrow_bytes.specs.Binaries.{slot_count}
use Rattle.arrow_bytes.proofs.Windows.{one_before, fits_values, values_count}
use Rattle.arrow_bytes.proofs.offset_array.RefOffsetArrayArrayAccessorRefSliceU8ByteString.len.Goals as goal

pub returns-clause-count : goal.returns-clause-count
returns-clause-count g c =
    one_before _ _ c.len_proxy.ensures.slots ∙ ap slot_count c.self.view_is ∙ sym (values_count g.O.Offset.number c.args.self.now)

pub returns-clause-fits : goal.returns-clause-fits
returns-clause-fits g c =
    fits_values g.O.Offset.number c.args.self.now
    (subst (λ a. MaskHasLength a.mask (slot_count a)) c.self.view_is c.self.invariant.laid_out.fits)
