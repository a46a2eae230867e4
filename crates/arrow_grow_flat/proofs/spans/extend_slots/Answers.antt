use Rattle.std.proofs.Common.{◌+◌}
use Rattle.arrow_bytes.specs.Binaries.{values_of}
use Rattle.arrow_grow_flat.specs.Spans.{slot_values}
use Rattle.arrow_grow_flat.proofs.JoinedSpans.{emptied_texts, on_err, part_texts, starts_back}
use Rattle.arrow_grow_flat.proofs.spans.extend_slots.Goals as goal

pub returns-then-is_err-clause-texts : goal.returns-then-is_err-clause-texts
returns-then-is_err-clause-texts g c =
    let a = c.args.source.now in
    let number = g.O.Offset.number in
    part_texts g.K.ViewType.IS_TEXT c.args.start c.args.len (slot_values number a) (emptied_texts g.K.ViewType.IS_TEXT a.mask (values_of number a) c.invariant.ensures.sound.texts)

pub returns-else-is_err-clause-texts : goal.returns-else-is_err-clause-texts
returns-else-is_err-clause-texts g c =
    let a = c.args.source.now in
    let number = g.O.Offset.number in
    part_texts g.K.ViewType.IS_TEXT c.args.start c.args.len (slot_values number a) (emptied_texts g.K.ViewType.IS_TEXT a.mask (values_of number a) c.invariant.ensures.sound.texts)

pub returns-then-is_err-clause-same_offsets : goal.returns-then-is_err-clause-same_offsets
returns-then-is_err-clause-same_offsets g c =
    on_err c.extend_by_mask-outcome.result
    (starts_back g.O.Offset.number c.args.offsets.now c.extend_by_mask-outcome.new.offsets c.truncate.new.self (c.len_proxy-slots.result + 1) c.len_proxy-slots.ensures.slots c.extend_by_mask-outcome.ensures.offsets_stay c.truncate.ensures)
