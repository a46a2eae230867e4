use Rattle.std.proofs.Common.{ap, ◌∙◌}
use Rattle.arrow_meaning.proofs.NullParts.{primitive_nulls}
use Rattle.arrow_meaning.proofs.null_flat.null_values.Goals as goal

pub returns : goal.returns
returns g c =
    primitive_nulls g.T.NativeType.parts c.new.result c.args.dtype.now c.args.length c.zero.result g.T.NativeType.PRIMITIVE
    (ap (λ a. a.dtype) c.new.ensures ∙ c.in_ok-dtype.ensures) (ap (λ a. a.values) c.new.ensures ∙ c.in_ok-values.ensures)
    (ap (λ a. a.mask) c.new.ensures ∙ c.in_ok-validity.ensures.same) (ap g.T.NativeType.parts c.zero.ensures ∙ g.met.T.NativeType.zero_parts)
