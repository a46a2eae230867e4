use Rattle.std.proofs.Common.{◌≡◌, subst, rules, ◌∙◌}
use Rattle.arrow_types.specs.Seen.{seen}
use Rattle.arrow_types.specs.declared.error.PolarsError.TheVariants.{ComputeError}
use Rattle.arrow_layout.specs.Layouts.{layouts, structs}
use Rattle.arrow_layout.specs.WellFormed.{WellFormed}
use Rattle.column_read.proofs.BadChildren.{bad_structs}
use Rattle.column_read.proofs.struct_.struct_array.Goals as goal

pub returns-in-Ok : goal.returns-in-Ok
returns-in-Ok c =
    let is : c.boxed-array.result ≡ structs (seen c.args.dtype) c.args.parts.validity c.args.parts.length (layouts c.args.children.items) = c.boxed-array.ensures.same ∙ c.in-Ok.ensures.1 in
    (is, subst WellFormed is c.invariant.ensures)

pub returns-in-Err-ComputeError : goal.returns-in-Err-ComputeError
returns-in-Err-ComputeError c = λ w.
    let error = c.in-Err-ComputeError.field-0 in
    let reason = c.in-Err-ComputeError.field-0-0 in
    let is : error ≡ ComputeError reason = search rules in
    bad_structs error reason (seen c.args.dtype) c.args.parts.validity c.args.parts.length (layouts c.args.children.items) is c.in-Err-ComputeError.ensures w
