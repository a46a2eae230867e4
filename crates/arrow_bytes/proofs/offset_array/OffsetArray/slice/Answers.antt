use Rattle.std.proofs.Common.{◌+◌, ◌≤◌, length, map, ap, sym, ◌∙◌, subst, arith}
use Rattle.std.specs.Prelude.{pred}
use Rattle.arrow_buffers.specs.Offsets.{end_of}
use Rattle.arrow_flat.specs.Primitives.{MaskHasLength}
use Rattle.arrow_flat.proofs.Masked.{cut_fits}
use Rattle.arrow_flat.specs.Pieces.{AreTextsIf}
use Rattle.arrow_bytes.specs.Binaries.{slot_count, values_between}
use Rattle.arrow_bytes.proofs.Windows.{texts_window_if, end_window, window_slots, within_count}
use Rattle.arrow_bytes.proofs.offset_array.OffsetArray.slice.Goals as goal

pub slice-requires : goal.slice-requires
slice-requires g c =
    within_count _ _ _ (subst (λ a. c.args.offset + c.args.length ≤ slot_count a) (sym c.self.view_is) c.requires) c.len_proxy.ensures.slots

pub invariant_of-self : goal.invariant_of-self
invariant_of-self g c =
    let number = g.O.Offset.number in
    let old = c.self.inside in
    let range = subst (λ a. c.args.offset + c.args.length ≤ slot_count a) (sym c.self.view_is) c.requires in
    let within = within_count _ _ _ range c.len_proxy.ensures.slots in
    let slots = ap (λ os. pred (length os)) c.slice.ensures ∙ window_slots number c.args.offset c.args.length old.offsets within in
    let mask = cut_fits old.validity (pred (length old.offsets)) c.args.offset c.args.length c.self.invariant.laid_out.fits range in
    let fits = subst (λ m. MaskHasLength m c.args.length) (sym c.slice_mask.ensures) mask in
    let end = end_window number g.O.Offset.limit c.args.offset (c.args.length + 1) old.offsets c.len_proxy.ensures.sound in
    let last = subst (λ os. end_of (map number os) ≤ end_of (map number old.offsets)) (sym c.slice.ensures) end in
    let texts = texts_window_if number g.K.ViewType.IS_TEXT c.args.offset c.args.length old.offsets old.values c.self.invariant.texts in
    record {
      laid_out = record { fits = subst (MaskHasLength c.slice_mask.new.validity) (sym slots) fits; stored = c.self.invariant.laid_out.stored };
      within = (let bound = c.self.invariant.within in omega arith);
      texts = subst (λ os. AreTextsIf g.K.ViewType.IS_TEXT (values_between number os old.values)) (sym c.slice.ensures) texts;
    }
