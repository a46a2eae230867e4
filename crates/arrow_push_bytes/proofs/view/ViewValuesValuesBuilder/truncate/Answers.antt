use Rattle.std.proofs.Common.{sym, subst}
use Rattle.arrow_flat.specs.Built.{IsCutTo}
use Rattle.arrow_push_bytes.specs.BuiltStrings.{TypedStrings}
use Rattle.arrow_push_bytes.specs.BuiltViews.{built_views, ArePacked}
use Rattle.arrow_push_bytes.proofs.BuiltViews.{packed_first, views_cut}
use Rattle.arrow_push_bytes.proofs.view.ViewValuesValuesBuilder.truncate.Goals as goal

pub invariant_of-self : goal.invariant_of-self
invariant_of-self g c =
    let text = g.T.ViewType.IS_TEXT in
    record {
      stored = c.self.invariant.stored;
      packed = subst (ArePacked text) (sym c.truncate.ensures) (packed_first text c.args.len c.self.inside.strings c.self.invariant.packed);
    }

pub returns : goal.returns
returns g c =
    let inside : TypedStrings = record { dtype = c.self.inside.dtype; strings = c.self.inside.strings } in
    let after : TypedStrings = record { dtype = c.self.inside.dtype; strings = c.truncate.new.self } in
    subst (λ (p : TypedStrings). IsCutTo c.args.len (built_views p) (built_views after))
    c.self.view_is (views_cut inside c.truncate.new.self c.args.len c.truncate.ensures)
