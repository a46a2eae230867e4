use Rattle.std.proofs.Common.{◌≡◌, ap, sym, ◌∙◌}
use Rattle.std.specs.Prelude.{◌||◌}
use Rattle.arrow_grow_flat.specs.Grown.{any_nulls}
use Rattle.arrow_grow_flat.specs.Values.{Values}
use Rattle.arrow_grow_flat.proofs.Making.{inside_fresh}
use Rattle.arrow_grow_flat.proofs.flat.FlatGrowable.new.Goals as goal
use Rattle.arrow_grow_flat.proofs.flat.FlatGrowable.new.Goals.{then-use_validity, else-use_validity}

needed_is : (g : _) (c : goal.After-invariant g) → c.if-use_validity.takes_nulls ≡ c.args.use_validity || any_nulls (g.V.GrowableValues.seen c.in_ok-values.values).arrays
needed_is g c =
    let some = any_nulls (g.V.GrowableValues.seen c.in_ok-values.values).arrays in
    elim c.if-use_validity.branch [
      | then-use_validity w ↦ w.takes_nulls-is ∙ w.if-use_validity.true ∙ sym (ap (λ b. b || some) w.if-use_validity.true)
      | else-use_validity w ↦ w.takes_nulls-is ∙ w.any_array_nulls-takes_nulls.ensures ∙ sym (ap (λ b. b || some) w.if-use_validity.false)
    ]

pub invariant_of-result : goal.invariant_of-result
invariant_of-result g c =
    inside_fresh g.V.GrowableValues.blank (g.V.GrowableValues.seen c.in_ok-values.values) c.args.use_validity c.invariant.ensures
    (ap (λ (v : Values). v.slots) c.in_ok-values.ensures) c.if-use_validity.takes_nulls c.empty_mask-validity.result (needed_is g c) c.empty_mask-validity.ensures
