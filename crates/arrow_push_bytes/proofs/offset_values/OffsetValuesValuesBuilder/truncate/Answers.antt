use Rattle.std.proofs.Common.{refl, sym, subst}
use Rattle.arrow_types.specs.Seen.{seen}
use Rattle.arrow_flat.specs.Built.{IsCutTo}
use Rattle.arrow_views.specs.ViewArrays.{AreTextsIf}
use Rattle.arrow_push_bytes.specs.BuiltStrings.{TypedStrings}
use Rattle.arrow_push_bytes.specs.BuiltOffsets.{strings_refusal, built_offsets}
use Rattle.arrow_push_bytes.proofs.BuiltStrings.{strings_cut}
use Rattle.arrow_push_bytes.proofs.BuiltViews.{texts_first}
use Rattle.arrow_push_bytes.proofs.offset_values.OffsetValuesValuesBuilder.truncate.Goals as goal

pub invariant_of-self : goal.invariant_of-self
invariant_of-self g c =
    let text = g.K.ViewType.IS_TEXT in
    record {
      stored = c.self.invariant.stored;
      texts = subst (AreTextsIf text) (sym c.truncate.ensures) (texts_first text c.args.len c.self.inside.strings c.self.invariant.texts);
    }

pub returns : goal.returns
returns g c =
    let limit = g.O.Offset.limit in
    let t = seen c.self.inside.dtype in
    let after : TypedStrings = record { dtype = c.self.inside.dtype; strings = c.truncate.new.self } in
    subst (λ (p : TypedStrings). IsCutTo c.args.len (built_offsets limit p) (built_offsets limit after))
    c.self.view_is (strings_cut (strings_refusal limit) t t c.self.inside.strings c.truncate.new.self c.args.len refl c.truncate.ensures)
