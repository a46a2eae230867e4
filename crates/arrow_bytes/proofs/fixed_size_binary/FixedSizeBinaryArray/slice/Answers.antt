use Rattle.std.proofs.Common.{◌+◌, ◌*◌, ◌/◌, ◌%◌, ◌≤◌, length, ap, sym, ◌∙◌, subst}
use Rattle.arrow_buffers.proofs.Windows.{window_length}
use Rattle.arrow_bytes.specs.FixedSizeBinaries.{slot_count}
use Rattle.arrow_flat.specs.Primitives.{MaskHasLength}
use Rattle.arrow_flat.proofs.Masked.{cut_fits}
use Rattle.arrow_flat.proofs.Pieces.{span_within, whole_multiple, whole_count}
use Rattle.arrow_bytes.proofs.fixed_size_binary.FixedSizeBinaryArray.slice.Goals as goal

pub slice_chunks-requires : goal.slice_chunks-requires
slice_chunks-requires c =
    span_within (length c.self.inside.values) c.self.inside.size c.args.offset c.args.length
    (subst (λ a. c.args.offset + c.args.length ≤ slot_count a) (sym c.self.view_is) c.requires)

pub invariant_of-self : goal.invariant_of-self
invariant_of-self c =
    let a = c.self.inside in
    let k = a.size in
    let range = subst (λ a. c.args.offset + c.args.length ≤ slot_count a) (sym c.self.view_is) c.requires in
    let span = span_within (length a.values) k c.args.offset c.args.length range in
    let bytes = ap length c.slice_chunks.ensures ∙ sym (window_length a.values (c.args.offset * k) (c.args.length * k) span) in
    let count = ap (λ n. n / k) bytes ∙ whole_count c.args.length k c.self.invariant.positive in
    let mask = cut_fits a.validity (length a.values / k) c.args.offset c.args.length c.self.invariant.fits range in
    let fits = subst (λ m. MaskHasLength m c.args.length) (sym c.slice_mask.ensures) mask in
    record {
      sized = c.self.invariant.sized;
      positive = c.self.invariant.positive;
      multiple = ap (λ n. n % k) bytes ∙ whole_multiple c.args.length k c.self.invariant.positive;
      fits = subst (MaskHasLength c.slice_mask.new.validity) (sym count) fits;
    }
