use Rattle.std.proofs.Common.{add-one, ap, sym, ◌∙◌}
use Rattle.std.proofs.lemmas.Bool.{false≢true}
use Rattle.arrow_layout.specs.Layouts.{length_of}
use Rattle.arrow_nested.proofs.Structs.{length_at, lengths_step}
use Rattle.arrow_nested.proofs.struct_.have_length.Goals as goal

pub returns-then-len-length : goal.returns-then-len-length
returns-then-len-length c = (
  λ e. absurd (false≢true e),
  λ h. absurd (c.if-len-length.true (c.len.ensures ∙ ap length_of c.value-item.is
      ∙ length_at c.args.length c.args.values.now c.loop-value.value-index c.value-item.result c.loop-value-test.true h)),
)

pub loop-value-preserved : goal.loop-value-preserved
loop-value-preserved c =
    rw (add-one c.loop-value.value-index)
    (lengths_step c.args.length c.args.values.now c.loop-value.value-index c.value-item.result c.loop-value-test.true
    (sym (ap length_of c.value-item.is) ∙ sym c.len.ensures ∙ c.if-len-length.false) c.loop-value.invariant)
