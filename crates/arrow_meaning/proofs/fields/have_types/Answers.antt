use Rattle.std.proofs.Common.{add-one, ap, arith, refl, sym, ◌∙◌}
use Rattle.std.proofs.lemmas.Bool.{false≢true}
use Rattle.arrow_types.specs.Seen.{seen}
use Rattle.arrow_types.proofs.Back.{seen_one}
use Rattle.arrow_meaning.proofs.FieldTypes.{types_end, types_step}
use Rattle.arrow_meaning.proofs.fields.have_types.Goals as goal

pub returns-then-not-is_same : goal.returns-then-not-is_same
returns-then-not-is_same c =
    let step = types_step c.args.fields.now c.args.children.now c.loop-i.i c.index-fields-i.result c.index-children-i.result c.loop-i-test.true (omega arith) c.index-fields-i.is c.index-children-i.is in (
      λ e. absurd (false≢true e),
      λ h. absurd (false≢true (sym c.if-not-is_same.true ∙ c.is_same.ensures.1 (seen_one _ _ ((step.0 (c.loop-i.invariant.1 h)).0 ∙ sym c.dtype.ensures)))),
    )

pub loop-i-preserved : goal.loop-i-preserved
loop-i-preserved c =
    let step = types_step c.args.fields.now c.args.children.now c.loop-i.i c.index-fields-i.result c.index-children-i.result c.loop-i-test.true (omega arith) c.index-fields-i.is c.index-children-i.is in
    let same = ap seen (c.is_same.ensures.0 c.if-not-is_same.false) ∙ c.dtype.ensures in
    rw (add-one c.loop-i.i) (λ h. c.loop-i.invariant.0 (step.1 (same, h)), λ h. (step.0 (c.loop-i.invariant.1 h)).1)

pub returns : goal.returns
returns c =
    (λ e. c.loop-i.invariant.0 (types_end c.args.fields.now c.args.children.now c.loop-i.i c.loop-i-test.false (omega arith)), λ h. refl)
