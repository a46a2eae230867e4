use Rattle.std.proofs.Common.{IfOk, Some, rules, subst, sym, ◌∙◌, ◌≡◌}
use Rattle.arrow_types.specs.Seen.{seen}
use Rattle.arrow_types.specs.Types.{physical_of}
use Rattle.arrow_types.specs.declared.datatype.PhysicalType.TheVariants as physical
use Rattle.arrow_layout.specs.NullLayout.{flat_nulls}
use Rattle.arrow_meaning.specs.Nodes.{layout_of}
use Rattle.arrow_meaning.proofs.FlatKinds.{flat_form}
use Rattle.arrow_meaning.proofs.NullParts.{kind_left, null_form, simple_kind, simple_some}
use Rattle.arrow_meaning.proofs.null_flat.null_flat.Goals as goal

pub null_primitive-requires-clause-native : goal.null_primitive-requires-clause-native
null_primitive-requires-clause-native c =
    let t = seen c.args.dtype.now in
    let e : physical_of t ≡ Some (physical.Primitive c.in-Primitive.p) = cc in
    simple_kind t (Some (physical.Primitive c.in-Primitive.p)) c.requires e

pub unreachable-requires : goal.unreachable-requires
unreachable-requires c = simple_some (seen c.args.dtype.now) c.to_physical_type.result c.requires (sym c.to_physical_type.ensures) c.in_default.not-Some

pub unreachable-requires-in_default-kind : goal.unreachable-requires-in_default-kind
unreachable-requires-in_default-kind c =
    let d = c.in_default-kind in
    kind_left c.in-Some.kind (simple_kind (seen c.args.dtype.now) (Some c.in-Some.kind) c.requires (sym c.to_physical_type.ensures ∙ c.in-Some.is))
    d.not-Null d.not-Boolean d.not-Primitive d.not-Binary d.not-LargeBinary d.not-Utf8 d.not-LargeUtf8 d.not-BinaryView d.not-Utf8View

pub returns-in-Null-clause-same : goal.returns-in-Null-clause-same
returns-in-Null-clause-same c =
    let t = seen c.args.dtype.now in
    let e : physical_of t ≡ Some physical.Null = cc in
    subst (λ f. IfOk c.clone_null.result (λ n. layout_of n ≡ flat_nulls t f c.args.length)) (sym (null_form t c.requires e)) c.clone_null.ensures.same

pub returns-in-Boolean-clause-same : goal.returns-in-Boolean-clause-same
returns-in-Boolean-clause-same c =
    let t = seen c.args.dtype.now in
    let e : physical_of t ≡ Some physical.Boolean = cc in
    subst (λ f. IfOk c.map.result (λ n. layout_of n ≡ flat_nulls t f c.args.length)) (sym (flat_form t physical.Boolean e tt)) (search rules)

pub returns-in-Primitive-clause-same : goal.returns-in-Primitive-clause-same
returns-in-Primitive-clause-same c =
    let t = seen c.args.dtype.now in
    let e : physical_of t ≡ Some (physical.Primitive c.in-Primitive.p) = cc in
    subst (λ f. IfOk c.map-in-Primitive.result (λ n. layout_of n ≡ flat_nulls t f c.args.length)) (sym (flat_form t (physical.Primitive c.in-Primitive.p) e tt)) (search rules)

pub returns-in-Binary-clause-same : goal.returns-in-Binary-clause-same
returns-in-Binary-clause-same c =
    let t = seen c.args.dtype.now in
    let e : physical_of t ≡ Some physical.Binary = cc in
    subst (λ f. IfOk c.map-in-Binary.result (λ n. layout_of n ≡ flat_nulls t f c.args.length)) (sym (flat_form t physical.Binary e tt)) (search rules)

pub returns-in-LargeBinary-clause-same : goal.returns-in-LargeBinary-clause-same
returns-in-LargeBinary-clause-same c =
    let t = seen c.args.dtype.now in
    let e : physical_of t ≡ Some physical.LargeBinary = cc in
    subst (λ f. IfOk c.map-in-LargeBinary.result (λ n. layout_of n ≡ flat_nulls t f c.args.length)) (sym (flat_form t physical.LargeBinary e tt)) (search rules)

pub returns-in-Utf8-clause-same : goal.returns-in-Utf8-clause-same
returns-in-Utf8-clause-same c =
    let t = seen c.args.dtype.now in
    let e : physical_of t ≡ Some physical.Utf8 = cc in
    subst (λ f. IfOk c.map-in-Utf8.result (λ n. layout_of n ≡ flat_nulls t f c.args.length)) (sym (flat_form t physical.Utf8 e tt)) (search rules)

pub returns-in-LargeUtf8-clause-same : goal.returns-in-LargeUtf8-clause-same
returns-in-LargeUtf8-clause-same c =
    let t = seen c.args.dtype.now in
    let e : physical_of t ≡ Some physical.LargeUtf8 = cc in
    subst (λ f. IfOk c.map-in-LargeUtf8.result (λ n. layout_of n ≡ flat_nulls t f c.args.length)) (sym (flat_form t physical.LargeUtf8 e tt)) (search rules)

pub returns-in-BinaryView-clause-same : goal.returns-in-BinaryView-clause-same
returns-in-BinaryView-clause-same c =
    let t = seen c.args.dtype.now in
    let e : physical_of t ≡ Some physical.BinaryView = cc in
    subst (λ f. IfOk c.map-in-BinaryView.result (λ n. layout_of n ≡ flat_nulls t f c.args.length)) (sym (flat_form t physical.BinaryView e tt)) (search rules)

pub returns-in-Utf8View-clause-same : goal.returns-in-Utf8View-clause-same
returns-in-Utf8View-clause-same c =
    let t = seen c.args.dtype.now in
    let e : physical_of t ≡ Some physical.Utf8View = cc in
    subst (λ f. IfOk c.map-in-Utf8View.result (λ n. layout_of n ≡ flat_nulls t f c.args.length)) (sym (flat_form t physical.Utf8View e tt)) (search rules)
