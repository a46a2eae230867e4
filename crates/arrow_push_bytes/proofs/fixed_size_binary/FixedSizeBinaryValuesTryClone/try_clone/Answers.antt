use Rattle.std.proofs.Common.{List, ℕ, ◌++◌, ap, ap₂, sym, ◌∙◌, subst}
use Rattle.arrow_types.specs.declared.datatype.ArrowDataType.{ArrowDataType}
use Rattle.arrow_push_bytes.specs.BuiltSized.{AreSized}
use Rattle.arrow_push_bytes.proofs.BuiltSized.{sized}
use Rattle.arrow_push_bytes.proofs.fixed_size_binary.FixedSizeBinaryValuesTryClone.try_clone.Goals as goal

pub invariant_of-result : goal.invariant_of-result
invariant_of-result c =
    let items = c.in_ok-extend_from_slice.ensures.items ∙ ap (λ xs. xs ++ c.as_slice.result.now) c.new-values.ensures.items ∙ c.as_slice.ensures.value in
    subst AreSized (sym (ap₂ (λ (t : ArrowDataType) (xs : List ℕ). sized t c.self.inside.size xs) c.in_ok-dtype.ensures items)) c.self.invariant

pub returns : goal.returns
returns c =
    let items = c.in_ok-extend_from_slice.ensures.items ∙ ap (λ xs. xs ++ c.as_slice.result.now) c.new-values.ensures.items ∙ c.as_slice.ensures.value in
    ap₂ (λ (t : ArrowDataType) (xs : List ℕ). sized t c.self.inside.size xs) c.in_ok-dtype.ensures items ∙ c.self.view_is
