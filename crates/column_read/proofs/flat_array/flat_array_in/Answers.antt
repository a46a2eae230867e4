use Rattle.std.proofs.Common.{◌≡◌, refl, sym, ap, rules, Some, None}
use Rattle.std.proofs.lemmas.Result.{err_from_is_err_and}
use Rattle.serde_json.specs.View.{view}
use Rattle.arrow_types.specs.Seen.{seen}
use Rattle.arrow_types.specs.Types.{physical_of}
use Rattle.arrow_types.specs.declared.datatype.PhysicalType.TheVariants as physical
use Rattle.arrow_bytes.specs.FixedSizeBinaries.{declared_size}
use Rattle.arrow_layout.specs.Forms.{form_of}
use Rattle.column_grammar.specs.Reads.{flat_in}
use Rattle.column_read.proofs.Arms.{err_reads}
use Rattle.column_read.proofs.StoredChildren.{reads_array}
use Rattle.column_read.proofs.StoredData.{data_stored, null_form}
use Rattle.column_read.proofs.flat_array.flat_array_in.Goals as goal

pub returns-in_err-layout : goal.returns-in_err-layout
returns-in_err-layout c =
    let t = seen c.args.dtype.now in
    let d = view c.args.value.now in
    let none : physical_of t ≡ None = search (rules, c.to_physical_type.ensures) in
    let p = err_from_is_err_and c.from_residual.result c.from_residual.ensures.1 in
    err_reads (flat_in (form_of t) t d) c.from_residual.result p.0 p.1 (λ _. data_stored t d None (declared_size t) (sym none) refl (λ e. cc))

pub returns-in-Null : goal.returns-in-Null
returns-in-Null c =
    let t = seen c.args.dtype.now in
    let d = view c.args.value.now in
    let stored : physical_of t ≡ Some physical.Null = search (rules, c.to_physical_type.ensures) in
    reads_array _ _ c.null_in.result (ap (λ f. flat_in f t d) (null_form t stored)) c.null_in.ensures

pub returns-in_default : goal.returns-in_default
returns-in_default c =
    let t = seen c.args.dtype.now in
    let d = view c.args.value.now in
    let stored : physical_of t ≡ Some c.in_ok-layout.layout = search (rules, c.to_physical_type.ensures) in
    reads_array _ _ c.values_in.result (data_stored t d (Some c.in_ok-layout.layout) (declared_size t) (sym stored) refl (λ e. c.in_default.not-Null (cc))) c.values_in.ensures
