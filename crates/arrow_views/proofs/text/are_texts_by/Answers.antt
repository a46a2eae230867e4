use Rattle.std.proofs.Common.{◌<◌, false, true, length, map, refl, sym, ◌∙◌, subst, arith, below_more}
use Rattle.std.specs.Prelude.{◌≡◌, IsUtf8}
use Rattle.arrow_flat.specs.Natives.{octets}
use Rattle.arrow_flat.specs.Views.{view_bytes, zero_view}
use Rattle.arrow_views.proofs.Checks.{any_default, mapped_from, mapped_in}
use Rattle.arrow_views.proofs.text.are_texts_by.Goals as goal

clash : false ≡ true → ⊥
clash e = cc

pub returns-then-not-is_text_by : goal.returns-then-not-is_text_by
returns-then-not-is_text_by c =
    let bytes = view_bytes (map octets c.args.buffers.now) in
    let i = c.loop-view.view-index in
    let below : i < length c.args.views.now = omega (arith, c.loop-view-test.true) in
    let at = c.view-item.is ∙ any_default c.args.views.now i c.view-item.result zero_view below in
    (λ e. absurd (clash e), λ h. c.if-not-is_text_by.ensures.1 (subst (λ v. IsUtf8 (bytes v)) (sym at) (mapped_in IsUtf8 bytes zero_view c.args.views.now i h below)))

pub loop-view-preserved : goal.loop-view-preserved
loop-view-preserved c =
    let bytes = view_bytes (map octets c.args.buffers.now) in
    let i = c.loop-view.view-index in
    let below : i < length c.args.views.now = omega (arith, c.loop-view-test.true) in
    let at = c.view-item.is ∙ any_default c.args.views.now i c.view-item.result zero_view below in
    below_more _ _ c.loop-view.invariant (subst (λ v. IsUtf8 (bytes v)) at (c.if-not-is_text_by.ensures.0 refl))

pub returns : goal.returns
returns c = (
  λ e. mapped_from IsUtf8 (view_bytes (map octets c.args.buffers.now)) zero_view c.args.views.now
      (λ k l. c.loop-view.invariant k (let past = c.loop-view-test.false in omega (arith, l))),
  λ h. refl,
)
