use Rattle.std.proofs.Common.{List, ◌++◌, ap, ap₂, ◌∙◌}
use Rattle.arrow_types.specs.declared.datatype.ArrowDataType.{ArrowDataType}
use Rattle.arrow_push.proofs.primitive.PrimitiveValuesTryClone.try_clone.Goals as goal

pub returns : goal.returns
returns g c =
    ap₂ (λ (t : ArrowDataType) (xs : List g.row.T.Denot). record { dtype = t; values = xs }) c.in_ok-dtype.ensures
    (c.in_ok-extend_from_slice.ensures.items ∙ ap (λ xs. xs ++ c.as_slice.result.now) c.new-values.ensures.items ∙ c.as_slice.ensures.value)
    ∙ c.self.view_is
