use Rattle.std.proofs.Common.{◌≡◌, ◌^◌, ◌+◌, ◌<◌, ◌≤◌, ◌++◌, map, ap, sym, ◌∙◌, subst, refl, arith, inr}
use Rattle.arrow_types.specs.Seen.{seen as type_of}
use Rattle.arrow_flat.specs.Built.{ExtendsFrom}
use Rattle.arrow_flat.specs.Slots.{bytes}
use Rattle.arrow_push_bytes.specs.Strings.{total_of}
use Rattle.arrow_push_bytes.specs.BuiltStrings.{TypedStrings}
use Rattle.arrow_push_bytes.specs.BuiltViews.{most_bytes, views_refusal, built_views, ArePacked}
use Rattle.arrow_push_bytes.proofs.BuiltViews.{packed_join, either_way, views_extended, some_refused, views_keep, beyond}
use Rattle.arrow_push_bytes.proofs.view.ViewValuesValuesBuilder.extend_values.Goals as goal

pub returns-then-not-has_room_for : goal.returns-then-not-has_room_for
returns-then-not-has_room_for g c =
    let now = c.args.self.now in
    let m : most_bytes < total_of now.strings + c.total.result =
    beyond c.has_room_for.result (total_of now.strings + c.total.result) most_bytes c.has_room_for.ensures.value c.if-not-has_room_for.true in (
      views_keep now now.dtype now.strings refl refl,
      inr (
          ap (λ (p : TypedStrings). views_refusal (total_of now.strings) (map bytes p.strings)) (sym c.other.view_is)
          ∙ some_refused (total_of now.strings) c.other.inside.strings c.has_room_for.ensures.few (omega (arith, m, c.total.ensures.value))
          ),
    )

pub invariant_of-self : goal.invariant_of-self
invariant_of-self g c =
    let text = g.T.ViewType.IS_TEXT in
    let xs = c.self.inside.strings in
    let ys = c.other.inside.strings in
    let room : total_of c.args.self.now.strings + c.total.result ≤ most_bytes = c.has_room_for.ensures.value.0 c.if-not-has_room_for.false in
    let same : total_of xs ≡ total_of c.args.self.now.strings = ap (λ (p : TypedStrings). total_of p.strings) c.self.view_is in
    let few : total_of xs + total_of ys ≤ most_bytes = omega (arith, room, same, c.total.ensures.value) in
    let other = c.other.invariant.packed in
    record {
      stored = c.self.invariant.stored;
      packed =
          either_way (ArePacked text) c.try_extend.result xs (xs ++ ys) c.try_extend.new.self _ _ c.try_extend.ensures.extended
          (packed_join text xs ys c.self.invariant.packed other.small other.fit other.texts few) c.self.invariant.packed;
    }

pub returns : goal.returns
returns g c =
    let xs = c.self.inside.strings in
    let ys = c.other.inside.strings in
    let room : total_of c.args.self.now.strings + c.total.result ≤ most_bytes = c.has_room_for.ensures.value.0 c.if-not-has_room_for.false in
    let same : total_of xs ≡ total_of c.args.self.now.strings = ap (λ (p : TypedStrings). total_of p.strings) c.self.view_is in
    let few : total_of xs + total_of ys ≤ most_bytes = omega (arith, room, same, c.total.ensures.value) in
    let inside : TypedStrings = record { dtype = c.self.inside.dtype; strings = xs } in
    let after : TypedStrings = record { dtype = c.self.inside.dtype; strings = c.try_extend.new.self } in
    subst (λ (q : TypedStrings). ExtendsFrom ((built_views c.args.self.now).refusal (map bytes q.strings)) (Unit {0})
    (built_views c.args.self.now) (built_views after) (map bytes q.strings) c.try_extend.result)
    c.other.view_is
    (subst (λ (p : TypedStrings). ExtendsFrom ((built_views p).refusal (map bytes ys)) (Unit {0})
    (built_views p) (built_views after) (map bytes ys) c.try_extend.result)
    c.self.view_is
    (views_extended (2 ^ 63) (omega arith) inside c.try_extend.new.self ys c.try_extend.result c.other.invariant.packed.fit few c.try_extend.ensures.extended))
