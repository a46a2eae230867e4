use Rattle.std.proofs.Common.{◌≡◌, ◌^◌, ◌∷◌, ◌++◌, [], length, true, ap, sym, ◌∙◌, subst, arith}
use Rattle.arrow_types.specs.Seen.{seen as type_of}
use Rattle.arrow_flat.specs.Built.{Pushes}
use Rattle.arrow_flat.specs.Slots.{bytes}
use Rattle.arrow_views.specs.ViewBytes.{bytes_from}
use Rattle.arrow_push_bytes.specs.Strings.{total_of}
use Rattle.arrow_push_bytes.specs.BuiltStrings.{TypedStrings}
use Rattle.arrow_push_bytes.specs.BuiltViews.{has_room, built_views, ArePacked}
use Rattle.arrow_push_bytes.proofs.BuiltViews.{packed_more, either_way, views_pushed}
use Rattle.arrow_push_bytes.proofs.view.ViewValues.push_bytes.Goals as goal

pub invariant_of-self : goal.invariant_of-self
invariant_of-self g c =
    let text = g.T.ViewType.IS_TEXT in
    let xs = c.self.inside.strings in
    let v = c.args.value.now in
    let room : has_room (total_of xs) (length v) ≡ true = ap (λ n. has_room n (length v)) (sym c.total.ensures.value) ∙ sym c.fits_after.ensures ∙ c.if-not-fits_after.false in
    record {
      stored = c.self.invariant.stored;
      packed =
          either_way (ArePacked text) c.try_push.result xs (xs ++ v ∷ []) c.try_push.new.self _ _ c.try_push.ensures
          (packed_more text xs v c.self.invariant.packed (bytes_from v (λ i l. omega (arith, c.type_inv.value i))) room c.requires) c.self.invariant.packed;
    }

pub returns : goal.returns
returns g c =
    let xs = c.self.inside.strings in
    let v = c.args.value.now in
    let room : has_room (total_of xs) (length v) ≡ true = ap (λ n. has_room n (length v)) (sym c.total.ensures.value) ∙ sym c.fits_after.ensures ∙ c.if-not-fits_after.false in
    let inside : TypedStrings = record { dtype = c.self.inside.dtype; strings = xs } in
    let after : TypedStrings = record { dtype = c.self.inside.dtype; strings = c.try_push.new.self } in
    subst (λ (p : TypedStrings). Pushes (λ y. y ≡ bytes v) (λ y. y ≡ bytes v) (built_views p) (built_views after) c.try_push.result)
    c.self.view_is (views_pushed (2 ^ 63) (omega arith) inside c.try_push.new.self v c.try_push.result room c.try_push.ensures)
