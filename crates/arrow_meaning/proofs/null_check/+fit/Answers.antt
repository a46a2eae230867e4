use Rattle.std.proofs.Common.{add-one, arith, false, subst, sym, true, IsTrue, ◌*◌, ◌<◌, ◌^◌, ◌∙◌, ◌↔◌, ◌≡◌}
use Rattle.std.proofs.lemmas.Bool.{false≢true}
use Rattle.arrow_types.specs.Seen.{seen, seen_fields, seen_union}
use Rattle.arrow_types.specs.SeenAt as at
use Rattle.arrow_types.specs.declared.datatype.UnionMode.TheVariants.{Sparse}
use Rattle.arrow_types.specs.declared.datatype.UnionType.{out-UnionType}
use Rattle.arrow_layout.specs.NullLayout.{one_if_any}
use Rattle.arrow_layout.specs.NullsFit.{AllNullsFit, NullsFit, SelectedNullsFit}
use Rattle.arrow_meaning.proofs.NullTypes.{both_told, dense_told, each_at, each_fits, each_step, each_whole, fit_other, no, product_told, selected_is, selected_none, told, yes}
use Rattle.arrow_meaning.proofs.null_check.+fit.Goals as goal

pub nulls_fit-returns-in-FixedSizeBinary : goal.nulls_fit-returns-in-FixedSizeBinary
nulls_fit-returns-in-FixedSizeBinary t c =
    let n = c.args.length in
    told (λ t. NullsFit t n) c.is_some.result (at.seen-FixedSizeBinary _) c.in-FixedSizeBinary.is
    (subst (λ r. IsTrue r ↔ (n * c.in-FixedSizeBinary.size < 2 ^ 64)) (sym c.is_some.ensures) (product_told c.checked_mul.result n c.in-FixedSizeBinary.size _ c.checked_mul.ensures))

pub nulls_fit-returns-in-Some : goal.nulls_fit-returns-in-Some
nulls_fit-returns-in-Some t c =
    let n = c.args.length in
    let r = c.nulls_fit.result in
    told (λ t. NullsFit t n) r (at.seen-FixedSizeList _ _) c.in-FixedSizeList.is
    (both_told r c.in-Some.ensures.0
    (subst (λ k. IsTrue r ↔ NullsFit (seen c.in-FixedSizeList.field.dtype) k) c.in-Some.ensures.1 (subst (λ f. IsTrue r ↔ NullsFit (seen f.dtype) c.in-Some.items) c.get.ensures c.nulls_fit.ensures)))

pub nulls_fit-returns-in-None : goal.nulls_fit-returns-in-None
nulls_fit-returns-in-None t c =
    let n = c.args.length in
    told (λ t. NullsFit t n) false (at.seen-FixedSizeList _ _) c.in-FixedSizeList.is (no (λ h. let p = h.0 in omega (arith, p, c.in-None.ensures)))

pub nulls_fit-returns-in-Struct : goal.nulls_fit-returns-in-Struct
nulls_fit-returns-in-Struct t c =
    let n = c.args.length in
    let r = c.all_nulls_fit.result in
    told (λ t. NullsFit t n) r (at.seen-Struct _) c.in-Struct.is (subst (λ fs. IsTrue r ↔ AllNullsFit (seen_fields fs) n) c.as_slice.ensures c.all_nulls_fit.ensures)

pub nulls_fit-returns-in-Union : goal.nulls_fit-returns-in-Union
nulls_fit-returns-in-Union t c =
    let n = c.args.length in
    let r = c.union_nulls_fit.result in
    told (λ t. NullsFit t n) r (at.seen-Union _) c.in-Union.is (subst (λ u. IsTrue r ↔ NullsFit (seen_union u) n) c.get-in-Union.ensures c.union_nulls_fit.ensures)

pub nulls_fit-returns-in-Dictionary : goal.nulls_fit-returns-in-Dictionary
nulls_fit-returns-in-Dictionary t c =
    let n = c.args.length in
    let r = c.nulls_fit-in-Dictionary.result in
    told (λ t. NullsFit t n) r (at.seen-Dictionary _ _ _) c.in-Dictionary.is
    (subst (λ v. IsTrue r ↔ NullsFit (seen v) (one_if_any n)) c.get-in-Dictionary.ensures (subst (λ k. IsTrue r ↔ NullsFit (seen c.get-in-Dictionary.result.now) k) c.one_if_any.ensures c.nulls_fit-in-Dictionary.ensures))

pub nulls_fit-returns-in-Extension : goal.nulls_fit-returns-in-Extension
nulls_fit-returns-in-Extension t c =
    let n = c.args.length in
    let r = c.nulls_fit-in-Extension.result in
    told (λ t. NullsFit t n) r (at.seen-Extension _) c.in-Extension.is (subst (λ e. IsTrue r ↔ NullsFit (seen e.inner) n) c.get-in-Extension.ensures c.nulls_fit-in-Extension.ensures)

pub nulls_fit-returns-in_default : goal.nulls_fit-returns-in_default
nulls_fit-returns-in_default t c =
    let d = c.in_default in
    yes (fit_other c.args.dtype.now d.not-FixedSizeBinary d.not-FixedSizeList d.not-Struct d.not-Union d.not-Dictionary d.not-Extension c.args.length)

pub union_nulls_fit-returns-in-Some : goal.union_nulls_fit-returns-in-Some
union_nulls_fit-returns-in-Some t c =
    let u = out-UnionType c.args.union.now in
    let r = c.nulls_fit.result in
    let other = λ (e : u.mode ≡ Sparse). false≢true (sym c.if-is_sparse.false ∙ c.is_sparse.ensures.1 e) in
    dense_told (seen_fields u.fields) u.ids u.mode c.args.length r other c.if-length-gt-DENSE_LIMIT.false
    (subst (λ i. IsTrue r ↔ SelectedNullsFit (seen_fields u.fields) i c.args.length) c.first_position.ensures
    (selected_is u.fields c.first_position.result c.args.length c.in-Some.field.now r c.in-Some.ensures.value c.nulls_fit.ensures))

pub union_nulls_fit-returns-in-None : goal.union_nulls_fit-returns-in-None
union_nulls_fit-returns-in-None t c =
    let u = out-UnionType c.args.union.now in
    let other = λ (e : u.mode ≡ Sparse). false≢true (sym c.if-is_sparse.false ∙ c.is_sparse.ensures.1 e) in
    dense_told (seen_fields u.fields) u.ids u.mode c.args.length true other c.if-length-gt-DENSE_LIMIT.false
    (yes (subst (λ i. SelectedNullsFit (seen_fields u.fields) i c.args.length) c.first_position.ensures (selected_none u.fields c.first_position.result c.args.length c.in-None.ensures.value)))

pub all_nulls_fit-returns-then-not-nulls_fit : goal.all_nulls_fit-returns-then-not-nulls_fit
all_nulls_fit-returns-then-not-nulls_fit t c =
    let fs = c.args.fields.now in
    no (λ h. false≢true (sym c.if-not-nulls_fit.true ∙ c.nulls_fit.ensures.1 (each_at (λ t. NullsFit t c.args.length) fs c.loop-field.field-index c.field-item.result c.loop-field-test.true c.field-item.is ((each_fits c.args.length fs).1 h))))

pub all_nulls_fit-loop-field-preserved : goal.all_nulls_fit-loop-field-preserved
all_nulls_fit-loop-field-preserved t c =
    rw (add-one c.loop-field.field-index)
    (each_step (λ t. NullsFit t c.args.length) c.args.fields.now c.loop-field.field-index c.field-item.result c.loop-field-test.true c.field-item.is (c.nulls_fit.ensures.0 c.if-not-nulls_fit.false) c.loop-field.invariant)

pub all_nulls_fit-returns : goal.all_nulls_fit-returns
all_nulls_fit-returns t c =
    let fs = c.args.fields.now in
    yes ((each_fits c.args.length fs).0 (each_whole (λ t. NullsFit t c.args.length) fs c.loop-field.field-index (omega (arith, c.loop-field-test.false)) c.loop-field.invariant))
