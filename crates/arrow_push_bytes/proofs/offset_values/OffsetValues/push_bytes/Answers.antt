use Rattle.std.proofs.Common.{[], ◌∷◌, ◌++◌, ◌≡◌, subst}
use Rattle.arrow_flat.specs.Built.{Pushes}
use Rattle.arrow_views.specs.ViewArrays.{AreTextsIf}
use Rattle.arrow_flat.specs.Slots.{bytes}
use Rattle.arrow_push_bytes.specs.BuiltStrings.{TypedStrings}
use Rattle.arrow_push_bytes.specs.BuiltOffsets.{built_offsets}
use Rattle.arrow_push_bytes.proofs.BuiltOffsets.{pushed}
use Rattle.arrow_push_bytes.proofs.BuiltViews.{either_way, texts_join}
use Rattle.arrow_push_bytes.proofs.offset_values.OffsetValues.push_bytes.Goals as goal

pub invariant_of-self : goal.invariant_of-self
invariant_of-self g c =
    let text = g.K.ViewType.IS_TEXT in
    let xs = c.self.inside.strings in
    let v = c.args.value.now in
    record {
      stored = c.self.invariant.stored;
      texts =
          either_way (AreTextsIf text) c.try_push.result xs (xs ++ v ∷ []) c.try_push.new.self _ _ c.try_push.ensures
          (texts_join text xs (v ∷ []) c.self.invariant.texts c.requires) c.self.invariant.texts;
    }

pub returns : goal.returns
returns g c =
    let limit = g.O.Offset.limit in
    let v = c.args.value.now in
    let inside : TypedStrings = record { dtype = c.self.inside.dtype; strings = c.self.inside.strings } in
    let after : TypedStrings = record { dtype = c.self.inside.dtype; strings = c.try_push.new.self } in
    subst (λ (p : TypedStrings). Pushes (λ y. y ≡ bytes v) (λ y. y ≡ bytes v) (built_offsets limit p) (built_offsets limit after) c.try_push.result)
    c.self.view_is (pushed limit inside c.try_push.new.self v c.try_push.result c.try_push.ensures)
