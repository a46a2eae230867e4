use Rattle.std.proofs.Common.{◌++◌, map, subst}
use Rattle.arrow_flat.specs.Built.{ExtendsFrom}
use Rattle.arrow_views.specs.ViewArrays.{AreTextsIf}
use Rattle.arrow_flat.specs.Slots.{bytes}
use Rattle.arrow_push_bytes.specs.BuiltStrings.{TypedStrings}
use Rattle.arrow_push_bytes.specs.BuiltOffsets.{built_offsets}
use Rattle.arrow_push_bytes.proofs.BuiltOffsets.{extended}
use Rattle.arrow_push_bytes.proofs.BuiltViews.{either_way, texts_join}
use Rattle.arrow_push_bytes.proofs.offset_values.OffsetValuesValuesBuilder.extend_values.Goals as goal

pub invariant_of-self : goal.invariant_of-self
invariant_of-self g c =
    let text = g.K.ViewType.IS_TEXT in
    let xs = c.self.inside.strings in
    let ys = c.other.inside.strings in
    record {
      stored = c.self.invariant.stored;
      texts =
          either_way (AreTextsIf text) c.try_extend.result xs (xs ++ ys) c.try_extend.new.self _ _ c.try_extend.ensures.extended
          (texts_join text xs ys c.self.invariant.texts c.other.invariant.texts) c.self.invariant.texts;
    }

pub returns : goal.returns
returns g c =
    let limit = g.O.Offset.limit in
    let ys = c.other.inside.strings in
    let inside : TypedStrings = record { dtype = c.self.inside.dtype; strings = c.self.inside.strings } in
    let after : TypedStrings = record { dtype = c.self.inside.dtype; strings = c.try_extend.new.self } in
    subst (λ (q : TypedStrings). ExtendsFrom ((built_offsets limit c.args.self.now).refusal (map bytes q.strings)) (Unit {0})
    (built_offsets limit c.args.self.now) (built_offsets limit after) (map bytes q.strings) c.try_extend.result)
    c.other.view_is
    (subst (λ (p : TypedStrings). ExtendsFrom ((built_offsets limit p).refusal (map bytes ys)) (Unit {0})
    (built_offsets limit p) (built_offsets limit after) (map bytes ys) c.try_extend.result)
    c.self.view_is
    (extended limit inside c.try_extend.new.self ys c.try_extend.result c.try_extend.ensures.fits c.try_extend.ensures.extended))
