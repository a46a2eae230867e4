use Rattle.std.proofs.Common.{add-one, ap, arith, false, subst, sym, IsTrue, ◌∙◌, ◌↔◌}
use Rattle.std.proofs.lemmas.Bool.{false≢true}
use Rattle.arrow_types.specs.Seen.{seen, seen_fields}
use Rattle.arrow_types.specs.SeenAt as at
use Rattle.arrow_types.specs.declared.datatype.UnionType.{out-UnionType}
use Rattle.arrow_meaning.specs.Storable.{AreStorable, IsStorable}
use Rattle.arrow_meaning.proofs.NullTypes.{each_at, each_step, each_storable, each_whole, no, storable_item, storable_other, told, yes}
use Rattle.arrow_meaning.proofs.null_check.+storable.Goals as goal

pub is_storable-returns-in-Float16 : goal.is_storable-returns-in-Float16
is_storable-returns-in-Float16 t c = told IsStorable false at.seen-Float16 c.in-Float16.is (no (λ h. h))

pub is_storable-returns-in-Float32 : goal.is_storable-returns-in-Float32
is_storable-returns-in-Float32 t c = told IsStorable false at.seen-Float32 c.in-Float32.is (no (λ h. h))

pub is_storable-returns-in-Float64 : goal.is_storable-returns-in-Float64
is_storable-returns-in-Float64 t c = told IsStorable false at.seen-Float64 c.in-Float64.is (no (λ h. h))

pub is_storable-returns-in-Decimal256 : goal.is_storable-returns-in-Decimal256
is_storable-returns-in-Decimal256 t c = told IsStorable false (at.seen-Decimal256 _ _) c.in-Decimal256.is (no (λ h. h))

pub is_storable-returns-in-Unknown : goal.is_storable-returns-in-Unknown
is_storable-returns-in-Unknown t c = told IsStorable false at.seen-Unknown c.in-Unknown.is (no (λ h. h))

pub is_storable-returns-in-Struct : goal.is_storable-returns-in-Struct
is_storable-returns-in-Struct t c =
    let r = c.are_storable.result in
    told IsStorable r (at.seen-Struct _) c.in-Struct.is (subst (λ fs. IsTrue r ↔ AreStorable (seen_fields fs)) c.as_slice.ensures c.are_storable.ensures)

pub is_storable-returns-in-Union : goal.is_storable-returns-in-Union
is_storable-returns-in-Union t c =
    let r = c.are_storable-in-Union.result in
    told IsStorable r (at.seen-Union _) c.in-Union.is
    (subst (λ fs. IsTrue r ↔ AreStorable (seen_fields fs)) (c.as_slice-in-Union.ensures ∙ ap (λ u. (out-UnionType u).fields) c.get.ensures) c.are_storable-in-Union.ensures)

pub is_storable-returns-in-Dictionary : goal.is_storable-returns-in-Dictionary
is_storable-returns-in-Dictionary t c =
    let r = c.is_storable.result in
    told IsStorable r (at.seen-Dictionary _ _ _) c.in-Dictionary.is (subst (λ v. IsTrue r ↔ IsStorable (seen v)) c.get-in-Dictionary.ensures c.is_storable.ensures)

pub is_storable-returns-in-Extension : goal.is_storable-returns-in-Extension
is_storable-returns-in-Extension t c =
    let r = c.is_storable-in-Extension.result in
    told IsStorable r (at.seen-Extension _) c.in-Extension.is (subst (λ e. IsTrue r ↔ IsStorable (seen e.inner)) c.get-in-Extension.ensures c.is_storable-in-Extension.ensures)

pub is_storable-returns-in_default : goal.is_storable-returns-in_default
is_storable-returns-in_default t c =
    let d = c.in_default in
    yes (storable_other c.args.dtype.now d.not-List d.not-LargeList d.not-FixedSizeList d.not-Map d.not-Struct d.not-Union d.not-Dictionary d.not-Extension
    d.not-Float16 d.not-Float32 d.not-Float64 d.not-Decimal256 d.not-Unknown)

pub is_storable-returns-in-List : goal.is_storable-returns-in-List
is_storable-returns-in-List t c =
    let r = c.is_storable-in-List.result in
    storable_item r c.args.dtype.now c.in-List.field c.in-List.is (subst (λ f. IsTrue r ↔ IsStorable (seen f.dtype)) c.get-in-List.ensures c.is_storable-in-List.ensures)

pub are_storable-returns-then-not-is_storable : goal.are_storable-returns-then-not-is_storable
are_storable-returns-then-not-is_storable t c =
    let fs = c.args.fields.now in
    no (λ h. false≢true (sym c.if-not-is_storable.true ∙ c.is_storable.ensures.1 (each_at IsStorable fs c.loop-field.field-index c.field-item.result c.loop-field-test.true c.field-item.is ((each_storable fs).1 h))))

pub are_storable-loop-field-preserved : goal.are_storable-loop-field-preserved
are_storable-loop-field-preserved t c =
    rw (add-one c.loop-field.field-index)
    (each_step IsStorable c.args.fields.now c.loop-field.field-index c.field-item.result c.loop-field-test.true c.field-item.is (c.is_storable.ensures.0 c.if-not-is_storable.false) c.loop-field.invariant)

pub are_storable-returns : goal.are_storable-returns
are_storable-returns t c =
    let fs = c.args.fields.now in
    yes ((each_storable fs).0 (each_whole IsStorable fs c.loop-field.field-index (omega (arith, c.loop-field-test.false)) c.loop-field.invariant))
