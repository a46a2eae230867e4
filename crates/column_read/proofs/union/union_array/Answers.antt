use Rattle.std.proofs.Common.{◌≡◌, subst, rules, ◌∙◌}
use Rattle.arrow_types.specs.Seen.{seen}
use Rattle.arrow_types.specs.declared.error.PolarsError.TheVariants.{ComputeError}
use Rattle.arrow_layout.specs.Layouts.{layouts}
use Rattle.arrow_layout.specs.WellFormed.{WellFormed}
use Rattle.arrow_meaning.specs.Nodes.{union_layout}
use Rattle.column_grammar.specs.Reads.{union_of}
use Rattle.column_read.proofs.BadChildren.{bad_unions, union_is}
use Rattle.column_read.proofs.union.union_array.Goals as goal

pub returns-in-Ok : goal.returns-in-Ok
returns-in-Ok c =
    let ls = layouts c.args.children.items in
    let is : c.boxed-array.result ≡ union_of (seen c.args.dtype) ls c.args.parts.offsets c.args.parts.types =
    c.boxed-array.ensures.same ∙ c.in-Ok.ensures.0 ∙ union_is c.args.dtype c.args.parts.types c.args.parts.offsets ls in
    (is, subst WellFormed is c.invariant.ensures)

pub returns-in-Err-ComputeError : goal.returns-in-Err-ComputeError
returns-in-Err-ComputeError c = λ w.
    let error = c.in-Err-ComputeError.field-0 in
    let reason = c.in-Err-ComputeError.field-0-0 in
    let is : error ≡ ComputeError reason = search rules in
    bad_unions error reason (seen c.args.dtype) (layouts c.args.children.items) c.args.parts.offsets c.args.parts.types is c.in-Err-ComputeError.ensures w
