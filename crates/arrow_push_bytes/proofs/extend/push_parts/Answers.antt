use Rattle.std.proofs.Common.{◌≡◌, ◌+◌, [], ◌∷◌, ◌++◌, drop, get_or, map, refl, sym, ◌∙◌, subst}
use Rattle.std.proofs.lemmas.List.{drop_more, drop_all}
use Rattle.arrow_flat.specs.Built.{Built, Takes}
use Rattle.arrow_views.specs.ViewArrays.{AreTextsIf}
use Rattle.arrow_flat.specs.Slots.{bytes}
use Rattle.arrow_push.specs.Laws.{masked_starts}
use Rattle.arrow_push.specs.State.{state}
use Rattle.arrow_push.proofs.Later.{passed_on}
use Rattle.arrow_push_bytes.specs.BuiltViews.{built_views}
use Rattle.arrow_push_bytes.specs.Laws.{views_start}
use Rattle.arrow_push.proofs.Takes.{takes_nothing, still_holds}
use Rattle.arrow_push_bytes.specs.Parts.{parts}
use Rattle.arrow_push_bytes.proofs.PartsPushed.{Left, sum_is, left_within, left_part, left_next, part_text, all_left, one_more, part_refused}
use Rattle.arrow_push_bytes.proofs.extend.push_parts.Goals as goal

pub loop-length-init : goal.loop-length-init
loop-length-init g c = (
  [],
  takes_nothing (state c.args.builder.now)
      (masked_starts (λ t. bytes []) (built_views c.args.builder.now.values) c.args.builder.now.validity (views_start c.args.builder.now.values) c.args.builder.now.fits) refl,
  (refl, sym (sum_is c.args.lengths.now) ∙ c.requires.lengths),
)

pub split_at-requires : goal.split_at-requires
split_at-requires g c =
    let lengths = c.args.lengths.now in
    let i = c.loop-length.length-index in
    let inv = c.loop-length.invariant in
    left_within lengths i (get_or lengths i 0) c.loop-length.rest.now (parts lengths c.args.bytes.now) inv.0 (drop_more lengths i 0 c.loop-length-test.true) inv.2

pub try_push-requires : goal.try_push-requires
try_push-requires g c =
    let text = g.T.ViewType.IS_TEXT in
    let lengths = c.args.lengths.now in
    let i = c.loop-length.length-index in
    let inv = c.loop-length.invariant in
    subst (λ v. AreTextsIf text (v ∷ [])) (sym c.split_at.ensures.front)
    (part_text text lengths i (get_or lengths i 0) c.loop-length.rest.now (parts lengths c.args.bytes.now) inv.0 (drop_more lengths i 0 c.loop-length-test.true) inv.2 c.requires.texts)

pub loop-length-preserved : goal.loop-length-preserved
loop-length-preserved g c =
    let lengths = c.args.lengths.now in
    let i = c.loop-length.length-index in
    let n = get_or lengths i 0 in
    let rest = c.loop-length.rest.now in
    let all = parts lengths c.args.bytes.now in
    let inv = c.loop-length.invariant in
    let v = c.split_at.result.0.now in
    let p = c.in_ok-try_push.ensures.pushed refl in (
      inv.0 ++ v ∷ [],
      one_more (state c.args.builder.now) (state c.loop-length.builder) (state c.try_push.new.self) inv.0 v p.0 p.1 inv.1 p.2,
      subst (λ r. Left (drop (i + 1) lengths) r all (inv.0 ++ v ∷ [])) (sym c.split_at.ensures.back)
          (subst (λ w. Left (drop (i + 1) lengths) (drop n rest) all (inv.0 ++ w ∷ [])) (sym c.split_at.ensures.front)
          (left_next lengths i n rest all inv.0 (drop_more lengths i 0 c.loop-length-test.true) inv.2)),
    )

pub returns-in_err-try_push : goal.returns-in_err-try_push
returns-in_err-try_push g c =
    let lengths = c.args.lengths.now in
    let i = c.loop-length.length-index in
    let n = get_or lengths i 0 in
    let rest = c.loop-length.rest.now in
    let all = parts lengths c.args.bytes.now in
    let inv = c.loop-length.invariant in
    let more = parts (drop (i + 1) lengths) (drop n rest) in
    let old : Built = state c.args.builder.now in
    let new : Built = state c.try_push.new.self in
    let now = c.loop-length.builder in
    let p = c.in_err-try_push.ensures.pushed refl in
    passed_on c.from_residual.result _ _ _ c.from_residual.ensures.1 (
      (map bytes inv.0, still_holds old (state now) new (map bytes inv.0) inv.1 p.0),
      part_refused old now.values now.validity inv.0 c.split_at.result.0.now more all _ inv.1
          (subst (λ w. all ≡ inv.0 ++ w ∷ more) (sym c.split_at.ensures.front) (left_part lengths i n rest all inv.0 (drop_more lengths i 0 c.loop-length-test.true) inv.2)) p.1,
    )

pub returns : goal.returns
returns g c =
    let lengths = c.args.lengths.now in
    let inv = c.loop-length.invariant in
    subst (λ vs. Takes (state c.args.builder.now) (state c.loop-length.builder) (map bytes vs))
    (all_left lengths c.loop-length.length-index c.loop-length.rest.now (parts lengths c.args.bytes.now) inv.0 (drop_all c.loop-length.length-index lengths c.loop-length-test.false) inv.2) inv.1
