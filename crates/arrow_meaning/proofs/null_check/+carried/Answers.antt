use Rattle.std.proofs.Common.{add-one, ap, arith, subst, sym, true, IsTrue, ◌∙◌, ◌↔◌}
use Rattle.std.proofs.lemmas.Bool.{false≢true}
use Rattle.arrow_types.specs.Seen.{seen, seen_fields, seen_union}
use Rattle.arrow_types.specs.SeenAt as at
use Rattle.arrow_types.specs.declared.datatype.UnionType.{out-UnionType}
use Rattle.arrow_types.specs.Carried.{AreCarried, IsCarried, IsPair}
use Rattle.arrow_meaning.specs.NullParts.{HasLegalFields}
use Rattle.arrow_meaning.proofs.NullTypes.{both_told, carried_item, carried_other, each_at, each_carried, each_step, each_whole, no, positive_told, told, union_illegal, union_told, yes}
use Rattle.arrow_meaning.proofs.null_check.+carried.Goals as goal

pub is_carried-returns-in-FixedSizeBinary : goal.is_carried-returns-in-FixedSizeBinary
is_carried-returns-in-FixedSizeBinary t c = told IsCarried _ (at.seen-FixedSizeBinary _) c.in-FixedSizeBinary.is (positive_told c.in-FixedSizeBinary.size c.if-prove.false)

pub is_carried-returns-in-Decimal : goal.is_carried-returns-in-Decimal
is_carried-returns-in-Decimal t c = told IsCarried true (at.seen-Decimal _ _) c.in-Decimal.is (yes (omega arith, omega arith))

pub is_carried-returns-in-FixedSizeList : goal.is_carried-returns-in-FixedSizeList
is_carried-returns-in-FixedSizeList t c = told IsCarried _ (at.seen-FixedSizeList _ _) c.in-FixedSizeList.is
    (both_told _ (omega arith) (subst (λ f. IsTrue c.is_carried.result ↔ IsCarried (seen f.dtype)) c.get.ensures c.is_carried.ensures))

pub is_carried-returns-then-is_pair : goal.is_carried-returns-then-is_pair
is_carried-returns-then-is_pair t c =
    let r = c.is_carried-then-is_pair.result in
    let pair = subst (λ f. IsPair (seen f.dtype)) c.get-in-Map.ensures (c.is_pair.ensures.0 c.if-is_pair.true) in
    told IsCarried r (at.seen-Map _ _) c.in-Map.is (both_told r pair (subst (λ f. IsTrue r ↔ IsCarried (seen f.dtype)) c.get-in-Map.ensures c.is_carried-then-is_pair.ensures))

pub is_carried-returns-else-is_pair : goal.is_carried-returns-else-is_pair
is_carried-returns-else-is_pair t c =
    let other = subst (λ f. IsPair (seen f.dtype) → ⊥) c.get-in-Map.ensures (λ p. false≢true (sym c.if-is_pair.false ∙ c.is_pair.ensures.1 p)) in
    told IsCarried _ (at.seen-Map _ _) c.in-Map.is (λ e. absurd (false≢true (sym c.if-is_pair.false ∙ e)), λ q. absurd (other q.0))

pub is_carried-returns-in-Struct : goal.is_carried-returns-in-Struct
is_carried-returns-in-Struct t c =
    let r = c.are_carried.result in
    told IsCarried r (at.seen-Struct _) c.in-Struct.is (subst (λ fs. IsTrue r ↔ AreCarried (seen_fields fs)) c.as_slice.ensures c.are_carried.ensures)

pub is_carried-returns-then-has_legal_fields : goal.is_carried-returns-then-has_legal_fields
is_carried-returns-then-has_legal_fields t c =
    let r = c.are_carried-then-has_legal_fields.result in
    let legal = subst (λ u. HasLegalFields (seen_union u)) c.get-union.ensures (c.has_legal_fields.ensures.0 c.if-has_legal_fields.true) in
    told IsCarried r (at.seen-Union _) c.in-Union.is
    (union_told c.in-Union.union r legal
    (subst (λ fs. IsTrue r ↔ AreCarried (seen_fields fs)) (c.as_slice-then-has_legal_fields.ensures ∙ ap (λ u. (out-UnionType u).fields) c.get-union.ensures) c.are_carried-then-has_legal_fields.ensures))

pub is_carried-returns-else-has_legal_fields : goal.is_carried-returns-else-has_legal_fields
is_carried-returns-else-has_legal_fields t c =
    let other = subst (λ u. HasLegalFields (seen_union u) → ⊥) c.get-union.ensures (λ p. false≢true (sym c.if-has_legal_fields.false ∙ c.has_legal_fields.ensures.1 p)) in
    told IsCarried _ (at.seen-Union _) c.in-Union.is (λ e. absurd (false≢true (sym c.if-has_legal_fields.false ∙ e)), λ q. absurd (union_illegal c.in-Union.union other q))

pub is_carried-returns-in-Dictionary : goal.is_carried-returns-in-Dictionary
is_carried-returns-in-Dictionary t c = told IsCarried _ (at.seen-Dictionary _ _ _) c.in-Dictionary.is
    (subst (λ v. IsTrue c.is_carried-in-Dictionary.result ↔ IsCarried (seen v)) c.get-in-Dictionary.ensures c.is_carried-in-Dictionary.ensures)

pub is_carried-returns-in-Extension : goal.is_carried-returns-in-Extension
is_carried-returns-in-Extension t c = told IsCarried _ (at.seen-Extension _) c.in-Extension.is
    (subst (λ e. IsTrue c.is_carried-in-Extension.result ↔ IsCarried (seen e.inner)) c.get-in-Extension.ensures c.is_carried-in-Extension.ensures)

pub is_carried-returns-in_default : goal.is_carried-returns-in_default
is_carried-returns-in_default t c =
    let d = c.in_default in
    carried_other c.args.dtype.now d.not-List d.not-LargeList d.not-FixedSizeList d.not-Map d.not-Struct d.not-Union d.not-Dictionary d.not-Extension
    d.not-FixedSizeBinary d.not-Decimal c.is_storable.result c.is_storable.ensures

pub is_carried-returns-in-List : goal.is_carried-returns-in-List
is_carried-returns-in-List t c =
    let r = c.is_carried-in-List.result in
    carried_item r c.args.dtype.now c.in-List.field c.in-List.is (subst (λ f. IsTrue r ↔ IsCarried (seen f.dtype)) c.get-in-List.ensures c.is_carried-in-List.ensures)

pub are_carried-returns-then-not-is_carried : goal.are_carried-returns-then-not-is_carried
are_carried-returns-then-not-is_carried t c =
    let fs = c.args.fields.now in
    no (λ h. false≢true (sym c.if-not-is_carried.true ∙ c.is_carried.ensures.1 (each_at IsCarried fs c.loop-field.field-index c.field-item.result c.loop-field-test.true c.field-item.is ((each_carried fs).1 h))))

pub are_carried-loop-field-preserved : goal.are_carried-loop-field-preserved
are_carried-loop-field-preserved t c =
    rw (add-one c.loop-field.field-index)
    (each_step IsCarried c.args.fields.now c.loop-field.field-index c.field-item.result c.loop-field-test.true c.field-item.is (c.is_carried.ensures.0 c.if-not-is_carried.false) c.loop-field.invariant)

pub are_carried-returns : goal.are_carried-returns
are_carried-returns t c =
    let fs = c.args.fields.now in
    yes ((each_carried fs).0 (each_whole IsCarried fs c.loop-field.field-index (omega (arith, c.loop-field-test.false)) c.loop-field.invariant))
