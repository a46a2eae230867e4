use Rattle.std.proofs.Common.{map, ap, sym, subst, ◌∙◌}
use Rattle.arrow_buffers.specs.Offsets.{to_nat}
use Rattle.arrow_flat.specs.Pieces.{pieces}
use Rattle.arrow_flat.specs.Slots.{bytes}
use Rattle.arrow_bytes.specs.Binaries.{AreTextsIf as AreOffsetTextsIf}
use Rattle.arrow_types.specs.Seen.{seen}
use Rattle.arrow_layout.specs.Denote.{under, validity_of, binary_slots}
use Rattle.arrow_layout.specs.Layouts.{type_of}
use Rattle.arrow_views.specs.ViewBytes.{octets_same}
use Rattle.arrow_push_bytes.proofs.BuiltOffsets.{offset_texts, same_numbers}
use Rattle.arrow_push.proofs.Finished.{shown_parts}
use Rattle.arrow_push_bytes.specs.BuiltStrings.{TypedStrings}
use Rattle.arrow_push_bytes.specs.BuiltOffsets.{finished_offsets, offset_array_layout}
use Rattle.arrow_push_bytes.proofs.offset_values.OffsetValuesValuesBuilder.finish_under.Goals as goal

pub new-requires-clause-texts : goal.new-requires-clause-texts
new-requires-clause-texts g c =
    let text = g.K.ViewType.IS_TEXT in
    subst (AreOffsetTextsIf text) (sym c.in_ok-offsets.ensures.value) (offset_texts text c.self.inside.strings c.self.invariant.texts)

pub returns-clause-value : goal.returns-clause-value
returns-clause-value g c =
    let number = g.O.Offset.number in
    ap (finished_offsets number) c.new.ensures
    ∙ shown_parts bytes c.in_ok-dtype.dtype c.args.self.now.dtype c.args.validity
    (pieces (map to_nat (map number c.in_ok-offsets.offsets)) c.in_ok-offsets.values) c.args.self.now.strings
    (c.in_ok-dtype.ensures ∙ ap (λ (p : TypedStrings). p.dtype) c.self.view_is)
    (c.in_ok-offsets.ensures.value ∙ ap (λ (p : TypedStrings). p.strings) c.self.view_is)

pub returns-clause-held : goal.returns-clause-held
returns-clause-held g c =
    let number = g.O.Offset.number in
    let os = map number c.in_ok-offsets.offsets in
    let bs = c.in_ok-offsets.values in
    let dtype = c.in_ok-dtype.ensures ∙ ap (λ (p : TypedStrings). p.dtype) c.self.view_is in
    let strings = c.in_ok-offsets.ensures.value ∙ ap (λ (p : TypedStrings). p.strings) c.self.view_is in
    record {
      same_type = ap (λ a. type_of (offset_array_layout number a)) c.new.ensures ∙ ap seen dtype;
      values_are =
          ap (λ a. under (offset_array_layout number a)) c.new.ensures
          ∙ ap (λ xs. binary_slots os xs) (octets_same bs c.in_ok-offsets.ensures.bytes)
          ∙ ap (λ ns. map bytes (pieces ns bs)) (same_numbers os) ∙ ap (map bytes) strings;
      mask_is = ap (λ a. validity_of (offset_array_layout number a)) c.new.ensures;
    }
