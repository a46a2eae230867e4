use Rattle.std.proofs.Common.{◌≡◌, ap, subst, rules, ◌∙◌}
use Rattle.arrow_types.specs.Seen.{seen}
use Rattle.arrow_types.specs.declared.error.PolarsError.TheVariants.{ComputeError}
use Rattle.arrow_layout.specs.Layouts.{fixed_size_lists}
use Rattle.arrow_layout.specs.WellFormed.{WellFormed}
use Rattle.arrow_nested.specs.FixedSizeLists.{size_by}
use Rattle.column_read.proofs.BadChildren.{bad_sized_lists}
use Rattle.column_read.proofs.fixed_size_list.fixed_size_list_array.Goals as goal

pub returns-in-Ok : goal.returns-in-Ok
returns-in-Ok c = λ k u form.
    let is : c.boxed-array.result ≡ fixed_size_lists (seen c.args.dtype) c.args.parts.validity k c.args.parts.length c.args.child =
    c.boxed-array.ensures.same ∙ c.in-Ok.ensures.1 ∙ ap (λ f. fixed_size_lists (seen c.args.dtype) c.args.parts.validity (size_by f) c.args.parts.length c.args.child) form in
    (is, subst WellFormed is c.invariant.ensures)

pub returns-in-Err-ComputeError : goal.returns-in-Err-ComputeError
returns-in-Err-ComputeError c = λ k u form w.
    let error = c.in-Err-ComputeError.field-0 in
    let reason = c.in-Err-ComputeError.field-0-0 in
    let is : error ≡ ComputeError reason = search rules in
    bad_sized_lists error reason (seen c.args.dtype) c.args.parts.validity k c.args.parts.length c.args.child is c.in-Err-ComputeError.ensures w
