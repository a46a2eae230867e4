use Rattle.std.proofs.Common.{◌≡◌, sym, subst}
use Rattle.arrow_types.specs.Seen.{seen}
use Rattle.arrow_layout.specs.Fits.{Fits}
use Rattle.arrow_meaning.specs.Nodes.{layout_of}
use Rattle.arrow_meaning.specs.declared.node.Node.TheVariants as made
use Rattle.arrow_canon.specs.Runs.{canon_of_runs}
use Rattle.arrow_canon.proofs.Mapped.{map_ok}
use Rattle.arrow_canon.proofs.normal.canonical_values.Goals as goal

pub returns-in-Boolean-clause-ok : goal.returns-in-Boolean-clause-ok
returns-in-Boolean-clause-ok c =
    let t = seen c.args.dtype.now in
    let rs = c.args.runs.now in
    map_ok c.canonical_boolean.result c.map.result made.Boolean _ _ c.map.ensures.cases c.canonical_boolean.ensures.ok
    (λ x p. subst (λ n. (layout_of (made.Boolean x) ≡ canon_of_runs t (layout_of n) rs) × Fits (canon_of_runs t (layout_of n) rs)) (sym c.in-Boolean.is) p)

pub returns-in-Primitive-clause-ok : goal.returns-in-Primitive-clause-ok
returns-in-Primitive-clause-ok c =
    let t = seen c.args.dtype.now in
    let rs = c.args.runs.now in
    map_ok c.canonical_numbers.result c.map-in-Primitive.result made.Primitive _ _ c.map-in-Primitive.ensures.cases c.canonical_numbers.ensures.ok
    (λ x p. subst (λ n. (layout_of (made.Primitive x) ≡ canon_of_runs t (layout_of n) rs) × Fits (canon_of_runs t (layout_of n) rs)) (sym c.in-Primitive.is) p)

pub returns-in-Binary-clause-ok : goal.returns-in-Binary-clause-ok
returns-in-Binary-clause-ok c =
    let t = seen c.args.dtype.now in
    let rs = c.args.runs.now in
    map_ok c.canonical_binary.result c.map-in-Binary.result made.Binary _ _ c.map-in-Binary.ensures.cases c.canonical_binary.ensures.ok
    (λ x p. subst (λ n. (layout_of (made.Binary x) ≡ canon_of_runs t (layout_of n) rs) × Fits (canon_of_runs t (layout_of n) rs)) (sym c.in-Binary.is) p)

pub returns-in-LargeBinary-clause-ok : goal.returns-in-LargeBinary-clause-ok
returns-in-LargeBinary-clause-ok c =
    let t = seen c.args.dtype.now in
    let rs = c.args.runs.now in
    map_ok c.canonical_binary-in-LargeBinary.result c.map-in-LargeBinary.result made.LargeBinary _ _ c.map-in-LargeBinary.ensures.cases c.canonical_binary-in-LargeBinary.ensures.ok
    (λ x p. subst (λ n. (layout_of (made.LargeBinary x) ≡ canon_of_runs t (layout_of n) rs) × Fits (canon_of_runs t (layout_of n) rs)) (sym c.in-LargeBinary.is) p)

pub returns-in-Utf8-clause-ok : goal.returns-in-Utf8-clause-ok
returns-in-Utf8-clause-ok c =
    let t = seen c.args.dtype.now in
    let rs = c.args.runs.now in
    map_ok c.canonical_binary-in-Utf8.result c.map-in-Utf8.result made.Utf8 _ _ c.map-in-Utf8.ensures.cases c.canonical_binary-in-Utf8.ensures.ok
    (λ x p. subst (λ n. (layout_of (made.Utf8 x) ≡ canon_of_runs t (layout_of n) rs) × Fits (canon_of_runs t (layout_of n) rs)) (sym c.in-Utf8.is) p)

pub returns-in-LargeUtf8-clause-ok : goal.returns-in-LargeUtf8-clause-ok
returns-in-LargeUtf8-clause-ok c =
    let t = seen c.args.dtype.now in
    let rs = c.args.runs.now in
    map_ok c.canonical_binary-in-LargeUtf8.result c.map-in-LargeUtf8.result made.LargeUtf8 _ _ c.map-in-LargeUtf8.ensures.cases c.canonical_binary-in-LargeUtf8.ensures.ok
    (λ x p. subst (λ n. (layout_of (made.LargeUtf8 x) ≡ canon_of_runs t (layout_of n) rs) × Fits (canon_of_runs t (layout_of n) rs)) (sym c.in-LargeUtf8.is) p)

pub returns-in-FixedSizeBinary-clause-ok : goal.returns-in-FixedSizeBinary-clause-ok
returns-in-FixedSizeBinary-clause-ok c =
    let t = seen c.args.dtype.now in
    let rs = c.args.runs.now in
    map_ok c.canonical_fixed_size_binary.result c.map-in-FixedSizeBinary.result made.FixedSizeBinary _ _ c.map-in-FixedSizeBinary.ensures.cases c.canonical_fixed_size_binary.ensures.ok
    (λ x p. subst (λ n. (layout_of (made.FixedSizeBinary x) ≡ canon_of_runs t (layout_of n) rs) × Fits (canon_of_runs t (layout_of n) rs)) (sym c.in-FixedSizeBinary.is) p)

pub returns-in-BinaryView-clause-ok : goal.returns-in-BinaryView-clause-ok
returns-in-BinaryView-clause-ok c =
    let t = seen c.args.dtype.now in
    let rs = c.args.runs.now in
    map_ok c.canonical_view.result c.map-in-BinaryView.result made.BinaryView _ _ c.map-in-BinaryView.ensures.cases c.canonical_view.ensures.ok
    (λ x p. subst (λ n. (layout_of (made.BinaryView x) ≡ canon_of_runs t (layout_of n) rs) × Fits (canon_of_runs t (layout_of n) rs)) (sym c.in-BinaryView.is) p)

pub returns-in-Utf8View-clause-ok : goal.returns-in-Utf8View-clause-ok
returns-in-Utf8View-clause-ok c =
    let t = seen c.args.dtype.now in
    let rs = c.args.runs.now in
    map_ok c.canonical_view-in-Utf8View.result c.map-in-Utf8View.result made.Utf8View _ _ c.map-in-Utf8View.ensures.cases c.canonical_view-in-Utf8View.ensures.ok
    (λ x p. subst (λ n. (layout_of (made.Utf8View x) ≡ canon_of_runs t (layout_of n) rs) × Fits (canon_of_runs t (layout_of n) rs)) (sym c.in-Utf8View.is) p)
