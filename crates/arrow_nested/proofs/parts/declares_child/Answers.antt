use Rattle.std.proofs.Common.{◌≡◌, Some, ap, sym, ◌∙◌}
use Rattle.std.specs.Prelude.{option_map}
use Rattle.arrow_types.specs.Seen.{seen, seen_field}
use Rattle.arrow_types.specs.TypeData.{field_type}
use Rattle.arrow_types.proofs.Back.{seen_one}
use Rattle.arrow_nested.specs.Lists.{child_type}
use Rattle.arrow_nested.proofs.Lists.{same_some}
use Rattle.arrow_nested.proofs.parts.declares_child.Goals as goal

pub returns-in-Some : goal.returns-in-Some
returns-in-Some c =
    let own = c.in-Some.field.now.dtype in
    let child = c.args.child.now in
    let e : child_type (seen c.args.dtype.now) ≡ Some (seen own) = ap (option_map field_type) (sym c.child_field.ensures ∙ ap (option_map (λ f. seen_field f.now)) c.in-Some.is) in (
      λ h. e ∙ ap (λ t. Some (seen t)) (c.is_same.ensures.0 h),
      λ k. c.is_same.ensures.1 (seen_one own child (same_some (seen own) (seen child) (sym e ∙ k))),
    )
