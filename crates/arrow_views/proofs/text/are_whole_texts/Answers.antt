use Rattle.std.proofs.Common.{◌<◌, [], false, true, length, refl, ap, sym, ◌∙◌, subst, arith, below_more}
use Rattle.std.specs.Prelude.{◌≡◌, IsUtf8}
use Rattle.arrow_flat.specs.Natives.{octets}
use Rattle.arrow_views.proofs.Checks.{any_default, mapped_from, mapped_in}
use Rattle.arrow_views.proofs.text.are_whole_texts.Goals as goal

clash : false ≡ true → ⊥
clash e = cc

pub returns-then-not-is_text : goal.returns-then-not-is_text
returns-then-not-is_text c =
    let raw = c.args.buffers.now in
    let i = c.loop-buffer.buffer-index in
    let below : i < length raw = omega (arith, c.loop-buffer-test.true) in
    let at = c.as_slice.ensures ∙ c.buffer-item.is ∙ any_default raw i c.buffer-item.result [] below in
    (λ e. absurd (clash e), λ h. c.if-not-is_text.ensures.1 (subst IsUtf8 (sym (ap octets at)) (mapped_in IsUtf8 octets [] raw i h below)))

pub loop-buffer-preserved : goal.loop-buffer-preserved
loop-buffer-preserved c =
    let raw = c.args.buffers.now in
    let i = c.loop-buffer.buffer-index in
    let below : i < length raw = omega (arith, c.loop-buffer-test.true) in
    let at = c.as_slice.ensures ∙ c.buffer-item.is ∙ any_default raw i c.buffer-item.result [] below in
    below_more _ _ c.loop-buffer.invariant (subst IsUtf8 (ap octets at) (c.if-not-is_text.ensures.0 refl))

pub returns : goal.returns
returns c =
    (λ e. mapped_from IsUtf8 octets [] c.args.buffers.now (λ k l. c.loop-buffer.invariant k (let past = c.loop-buffer-test.false in omega (arith, l))), λ h. refl)
