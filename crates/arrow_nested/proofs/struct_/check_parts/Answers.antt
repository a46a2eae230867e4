use Rattle.std.proofs.Common.{sym, subst, ◌∙◌}
use Rattle.std.proofs.lemmas.Bool.{false≢true}
use Rattle.arrow_layout.specs.Layouts.{layouts}
use Rattle.arrow_types.specs.declared.error.Reason.TheVariants.{ChildTypeDiffers, FieldCount}
use Rattle.arrow_nested.specs.Structs.{RefusedAt}
use Rattle.arrow_nested.proofs.Structs.{children_count, fields_count}
use Rattle.arrow_nested.proofs.struct_.check_parts.Goals as goal

pub returns-then-fields-values : goal.returns-then-fields-values
returns-then-fields-values c =
    subst (λ f. RefusedAt FieldCount f c.args.length (layouts c.args.values.now) c.args.validity.now) (sym c.in-Some.ensures)
    (λ e. c.if-fields-values.true (sym (fields_count c.in-Some.fields.now) ∙ e ∙ children_count c.args.values.now))

pub returns-then-not-have_types : goal.returns-then-not-have_types
returns-then-not-have_types c =
    subst (λ f. RefusedAt ChildTypeDiffers f c.args.length (layouts c.args.values.now) c.args.validity.now) (sym c.in-Some.ensures) (
      fields_count c.in-Some.fields.now ∙ c.if-fields-values.false ∙ sym (children_count c.args.values.now),
      λ h. false≢true (sym c.if-not-have_types.true ∙ c.have_types.ensures.1 h),
    )
