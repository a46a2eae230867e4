use Rattle.std.proofs.Common.{[], ◌∷◌, sym, subst, refl}
use Rattle.arrow_types.specs.Seen.{seen as type_of}
use Rattle.arrow_flat.specs.Built.{Takes}
use Rattle.arrow_flat.specs.Slots.{bytes}
use Rattle.arrow_push_bytes.specs.Strings.{total_of}
use Rattle.arrow_push_bytes.specs.BuiltStrings.{TypedStrings}
use Rattle.arrow_push_bytes.specs.BuiltViews.{built_views, ArePacked}
use Rattle.arrow_push_bytes.proofs.BuiltViews.{packed_more, none_goes, none_text, one_goes, views_take}
use Rattle.arrow_push_bytes.proofs.view.ViewValuesValuesBuilder.push_blank.Goals as goal

pub invariant_of-self-2 : goal.invariant_of-self-2
invariant_of-self-2 g c =
    let text = g.T.ViewType.IS_TEXT in
    let xs = c.self.inside.strings in
    let packed = c.self.invariant.packed in
    record {
      stored = c.self.invariant.stored;
      packed = subst (ArePacked text) (sym c.in_default.ensures.0) (packed_more text xs [] packed tt (none_goes text xs packed) (none_text text));
    }

pub returns : goal.returns
returns g c =
    let xs = c.self.inside.strings in
    let inside : TypedStrings = record { dtype = c.self.inside.dtype; strings = xs } in
    let after : TypedStrings = record { dtype = c.self.inside.dtype; strings = c.try_push.new.self } in
    subst (λ (p : TypedStrings). Takes (built_views p) (built_views after) (bytes [] ∷ []))
    c.self.view_is (views_take inside c.self.inside.dtype ([] ∷ []) c.try_push.new.self refl c.in_default.ensures.0 (one_goes (total_of xs) [] (none_goes g.T.ViewType.IS_TEXT xs c.self.invariant.packed)))
