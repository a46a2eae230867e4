use Rattle.std.proofs.Common.{[], ◌∷◌, ◌++◌, refl, sym, subst}
use Rattle.arrow_flat.specs.Built.{Takes}
use Rattle.arrow_views.specs.ViewArrays.{AreTextsIf}
use Rattle.arrow_flat.specs.Slots.{bytes}
use Rattle.arrow_push_bytes.specs.BuiltStrings.{TypedStrings}
use Rattle.arrow_push_bytes.specs.BuiltOffsets.{built_offsets}
use Rattle.arrow_push_bytes.proofs.BuiltOffsets.{took_string}
use Rattle.arrow_push_bytes.proofs.BuiltViews.{texts_join, none_text}
use Rattle.arrow_push_bytes.proofs.offset_values.OffsetValuesValuesBuilder.push_blank.Goals as goal

pub invariant_of-self-2 : goal.invariant_of-self-2
invariant_of-self-2 g c =
    let text = g.K.ViewType.IS_TEXT in
    let xs = c.self.inside.strings in
    record {
      stored = c.self.invariant.stored;
      texts = subst (AreTextsIf text) (sym c.in_default.ensures.0) (texts_join text xs ([] ∷ []) c.self.invariant.texts (none_text text));
    }

pub returns : goal.returns
returns g c =
    let limit = g.O.Offset.limit in
    let inside : TypedStrings = record { dtype = c.self.inside.dtype; strings = c.self.inside.strings } in
    let after : TypedStrings = record { dtype = c.self.inside.dtype; strings = c.try_push.new.self } in
    subst (λ (p : TypedStrings). Takes (built_offsets limit p) (built_offsets limit after) (bytes [] ∷ []))
    c.self.view_is (took_string limit inside c.self.inside.dtype [] c.try_push.new.self refl c.in_default.ensures.0 c.in_default.ensures.1)
