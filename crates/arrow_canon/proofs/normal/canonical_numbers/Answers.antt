use Rattle.std.proofs.Common.{◌≡◌, sym, subst}
use Rattle.arrow_types.specs.Seen.{seen}
use Rattle.arrow_layout.specs.Fits.{Fits}
use Rattle.arrow_meaning.specs.Nodes.{primitive_node_layout}
use Rattle.arrow_meaning.specs.declared.primitive.PrimitiveNode.TheVariants as made
use Rattle.arrow_canon.specs.Runs.{canon_of_runs}
use Rattle.arrow_canon.proofs.Mapped.{map_ok}
use Rattle.arrow_canon.proofs.normal.canonical_numbers.Goals as goal

pub returns-in-Int8-clause-ok : goal.returns-in-Int8-clause-ok
returns-in-Int8-clause-ok c =
    let t = seen c.args.dtype.now in
    let rs = c.args.runs.now in
    map_ok c.canonical_primitive.result c.map.result made.Int8 _ _ c.map.ensures.cases c.canonical_primitive.ensures.ok
    (λ x p. subst (λ n. (primitive_node_layout (made.Int8 x) ≡ canon_of_runs t (primitive_node_layout n) rs) × Fits (canon_of_runs t (primitive_node_layout n) rs)) (sym c.in-Int8.is) p)

pub returns-in-Int16-clause-ok : goal.returns-in-Int16-clause-ok
returns-in-Int16-clause-ok c =
    let t = seen c.args.dtype.now in
    let rs = c.args.runs.now in
    map_ok c.canonical_primitive-in-Int16.result c.map-in-Int16.result made.Int16 _ _ c.map-in-Int16.ensures.cases c.canonical_primitive-in-Int16.ensures.ok
    (λ x p. subst (λ n. (primitive_node_layout (made.Int16 x) ≡ canon_of_runs t (primitive_node_layout n) rs) × Fits (canon_of_runs t (primitive_node_layout n) rs)) (sym c.in-Int16.is) p)

pub returns-in-Int32-clause-ok : goal.returns-in-Int32-clause-ok
returns-in-Int32-clause-ok c =
    let t = seen c.args.dtype.now in
    let rs = c.args.runs.now in
    map_ok c.canonical_primitive-in-Int32.result c.map-in-Int32.result made.Int32 _ _ c.map-in-Int32.ensures.cases c.canonical_primitive-in-Int32.ensures.ok
    (λ x p. subst (λ n. (primitive_node_layout (made.Int32 x) ≡ canon_of_runs t (primitive_node_layout n) rs) × Fits (canon_of_runs t (primitive_node_layout n) rs)) (sym c.in-Int32.is) p)

pub returns-in-Int64-clause-ok : goal.returns-in-Int64-clause-ok
returns-in-Int64-clause-ok c =
    let t = seen c.args.dtype.now in
    let rs = c.args.runs.now in
    map_ok c.canonical_primitive-in-Int64.result c.map-in-Int64.result made.Int64 _ _ c.map-in-Int64.ensures.cases c.canonical_primitive-in-Int64.ensures.ok
    (λ x p. subst (λ n. (primitive_node_layout (made.Int64 x) ≡ canon_of_runs t (primitive_node_layout n) rs) × Fits (canon_of_runs t (primitive_node_layout n) rs)) (sym c.in-Int64.is) p)

pub returns-in-Int128-clause-ok : goal.returns-in-Int128-clause-ok
returns-in-Int128-clause-ok c =
    let t = seen c.args.dtype.now in
    let rs = c.args.runs.now in
    map_ok c.canonical_primitive-in-Int128.result c.map-in-Int128.result made.Int128 _ _ c.map-in-Int128.ensures.cases c.canonical_primitive-in-Int128.ensures.ok
    (λ x p. subst (λ n. (primitive_node_layout (made.Int128 x) ≡ canon_of_runs t (primitive_node_layout n) rs) × Fits (canon_of_runs t (primitive_node_layout n) rs)) (sym c.in-Int128.is) p)

pub returns-in-UInt8-clause-ok : goal.returns-in-UInt8-clause-ok
returns-in-UInt8-clause-ok c =
    let t = seen c.args.dtype.now in
    let rs = c.args.runs.now in
    map_ok c.canonical_primitive-in-UInt8.result c.map-in-UInt8.result made.UInt8 _ _ c.map-in-UInt8.ensures.cases c.canonical_primitive-in-UInt8.ensures.ok
    (λ x p. subst (λ n. (primitive_node_layout (made.UInt8 x) ≡ canon_of_runs t (primitive_node_layout n) rs) × Fits (canon_of_runs t (primitive_node_layout n) rs)) (sym c.in-UInt8.is) p)

pub returns-in-UInt16-clause-ok : goal.returns-in-UInt16-clause-ok
returns-in-UInt16-clause-ok c =
    let t = seen c.args.dtype.now in
    let rs = c.args.runs.now in
    map_ok c.canonical_primitive-in-UInt16.result c.map-in-UInt16.result made.UInt16 _ _ c.map-in-UInt16.ensures.cases c.canonical_primitive-in-UInt16.ensures.ok
    (λ x p. subst (λ n. (primitive_node_layout (made.UInt16 x) ≡ canon_of_runs t (primitive_node_layout n) rs) × Fits (canon_of_runs t (primitive_node_layout n) rs)) (sym c.in-UInt16.is) p)

pub returns-in-UInt32-clause-ok : goal.returns-in-UInt32-clause-ok
returns-in-UInt32-clause-ok c =
    let t = seen c.args.dtype.now in
    let rs = c.args.runs.now in
    map_ok c.canonical_primitive-in-UInt32.result c.map-in-UInt32.result made.UInt32 _ _ c.map-in-UInt32.ensures.cases c.canonical_primitive-in-UInt32.ensures.ok
    (λ x p. subst (λ n. (primitive_node_layout (made.UInt32 x) ≡ canon_of_runs t (primitive_node_layout n) rs) × Fits (canon_of_runs t (primitive_node_layout n) rs)) (sym c.in-UInt32.is) p)

pub returns-in-UInt64-clause-ok : goal.returns-in-UInt64-clause-ok
returns-in-UInt64-clause-ok c =
    let t = seen c.args.dtype.now in
    let rs = c.args.runs.now in
    map_ok c.canonical_primitive-in-UInt64.result c.map-in-UInt64.result made.UInt64 _ _ c.map-in-UInt64.ensures.cases c.canonical_primitive-in-UInt64.ensures.ok
    (λ x p. subst (λ n. (primitive_node_layout (made.UInt64 x) ≡ canon_of_runs t (primitive_node_layout n) rs) × Fits (canon_of_runs t (primitive_node_layout n) rs)) (sym c.in-UInt64.is) p)

pub returns-in-DaysMs-clause-ok : goal.returns-in-DaysMs-clause-ok
returns-in-DaysMs-clause-ok c =
    let t = seen c.args.dtype.now in
    let rs = c.args.runs.now in
    map_ok c.canonical_primitive-in-DaysMs.result c.map-in-DaysMs.result made.DaysMs _ _ c.map-in-DaysMs.ensures.cases c.canonical_primitive-in-DaysMs.ensures.ok
    (λ x p. subst (λ n. (primitive_node_layout (made.DaysMs x) ≡ canon_of_runs t (primitive_node_layout n) rs) × Fits (canon_of_runs t (primitive_node_layout n) rs)) (sym c.in-DaysMs.is) p)

pub returns-in-MonthDayNano-clause-ok : goal.returns-in-MonthDayNano-clause-ok
returns-in-MonthDayNano-clause-ok c =
    let t = seen c.args.dtype.now in
    let rs = c.args.runs.now in
    map_ok c.canonical_primitive-in-MonthDayNano.result c.map-in-MonthDayNano.result made.MonthDayNano _ _ c.map-in-MonthDayNano.ensures.cases c.canonical_primitive-in-MonthDayNano.ensures.ok
    (λ x p. subst (λ n. (primitive_node_layout (made.MonthDayNano x) ≡ canon_of_runs t (primitive_node_layout n) rs) × Fits (canon_of_runs t (primitive_node_layout n) rs)) (sym c.in-MonthDayNano.is) p)
