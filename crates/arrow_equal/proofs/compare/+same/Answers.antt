use Rattle.std.proofs.Common.{◌≡◌, ◌<◌, arith, length, refl, sym, subst, ◌∙◌, IsTrue, ◌↔◌}
use Rattle.std.specs.Prelude.{nat_eq}
use Rattle.std.proofs.lemmas.Bool.{false≢true}
use Rattle.arrow_flat.specs.Slots.{items, parts, slots_of}
use Rattle.arrow_equal.proofs.OtherKinds.{not_chosen, not_items, not_row}
use Rattle.arrow_equal.specs.SlotAt.{slot_at}
use Rattle.arrow_equal.proofs.Ranges.{items_differ, items_same, null_ranges, parts_same, ranges_at, ranges_next, rows_at, rows_next}
use Rattle.arrow_equal.proofs.Slots.{count_at, have_at}
use Rattle.arrow_equal.specs.SlotParts.{HasParts, row_at, slot_of, slots_from}
use Rattle.arrow_equal.proofs.compare.+same.Goals as goal

pub slots_same-returns : goal.slots_same-returns
slots_same-returns t c =
    let p = c.parts_at.ensures.2 in
    let q = c.parts_at-2.ensures.2 in
    (λ h. p ∙ c.same_parts.ensures.0 h ∙ sym q, λ e. c.same_parts.ensures.1 (sym p ∙ e ∙ q))

pub ranges_same-returns-then-are_null_arrays : goal.ranges_same-returns-then-are_null_arrays
ranges_same-returns-then-are_null_arrays t c =
    let n = c.are_null_arrays.ensures c.if-are_null_arrays.true in
    (λ h. null_ranges c.args.lhs.now c.args.rhs.now c.args.start c.args.other_start c.args.length n.0 n.1 c.invariant.ensures c.invariant-2.ensures c.requires.within c.requires.other_within, λ e. refl)

pub ranges_same-loop-i-preserved : goal.ranges_same-loop-i-preserved
ranges_same-loop-i-preserved t c =
    ranges_next c.args.lhs.now c.args.rhs.now c.args.start c.args.other_start c.loop-i.i c.invariant.ensures c.invariant-2.ensures (omega arith) (omega arith) c.loop-i.invariant (c.slots_same.ensures.0 c.if-not-slots_same.false)

pub ranges_same-returns-then-not-slots_same : goal.ranges_same-returns-then-not-slots_same
ranges_same-returns-then-not-slots_same t c = (
  λ h. absurd (false≢true h),
  λ e. sym c.if-not-slots_same.true ∙ c.slots_same.ensures.1 (ranges_at c.args.lhs.now c.args.rhs.now c.args.start c.args.other_start c.args.length c.loop-i.i c.loop-i-test.true e),
)

pub rows_same-slots_same-requires : goal.rows_same-slots_same-requires
rows_same-slots_same-requires t c =
    let ls = c.args.lhs.now in
    let rs = c.args.rhs.now in
    let k = c.loop-k.k in
    let l = c.index-lhs-k.result in
    let r = c.index-rhs-k.result in
    let within : k < length rs = omega arith in (
      omega (arith, c.decreases, count_at ls k l c.loop-k-test.true c.index-lhs-k.is, count_at rs k r within c.index-rhs-k.is),
      (have_at ls c.args.i k l c.requires.within c.loop-k-test.true c.index-lhs-k.is, have_at rs c.args.j k r c.requires.other_within within c.index-rhs-k.is),
    )

pub rows_same-loop-k-preserved : goal.rows_same-loop-k-preserved
rows_same-loop-k-preserved t c =
    rows_next c.args.lhs.now c.args.rhs.now c.args.i c.args.j c.loop-k.k c.index-lhs-k.result c.index-rhs-k.result c.loop-k-test.true (omega arith) c.index-lhs-k.is c.index-rhs-k.is c.loop-k.invariant (c.slots_same.ensures.0 c.if-not-slots_same.false)

pub rows_same-returns-then-not-slots_same : goal.rows_same-returns-then-not-slots_same
rows_same-returns-then-not-slots_same t c = (
  λ h. absurd (false≢true h),
  λ e. sym c.if-not-slots_same.true ∙ c.slots_same.ensures.1 (rows_at c.args.lhs.now c.args.rhs.now c.args.i c.args.j c.loop-k.k c.index-lhs-k.result c.index-rhs-k.result c.loop-k-test.true (omega arith) c.index-lhs-k.is c.index-rhs-k.is e),
)

pub is_items-returns-then-length-other_length : goal.is_items-returns-then-length-other_length
is_items-returns-then-length-other_length t c =
    let own = slots_from c.args.child.now c.args.start c.args.length in
    subst (λ p. IsTrue c.ranges_same.result ↔ (items (slots_of own) ≡ slot_of p)) (sym c.in-Items.is)
    (items_same c.args.child.now c.in-Items.other_child.now c.args.start c.in-Items.other_start c.args.length c.in-Items.other_length c.ranges_same.result c.if-length-other_length.true c.ranges_same.ensures)

pub is_items-returns-else-length-other_length : goal.is_items-returns-else-length-other_length
is_items-returns-else-length-other_length t c =
    let own = slots_from c.args.child.now c.args.start c.args.length in
    subst (λ p. IsTrue (nat_eq c.args.length c.in-Items.other_length) ↔ (items (slots_of own) ≡ slot_of p)) (sym c.in-Items.is)
    (items_differ c.args.child.now c.in-Items.other_child.now c.args.start c.in-Items.other_start c.args.length c.in-Items.other_length c.invariant.ensures c.invariant-in-Items.ensures c.requires.has (subst HasParts c.in-Items.is c.requires.other_has) c.if-length-other_length.false)

pub is_items-returns-in_default : goal.is_items-returns-in_default
is_items-returns-in_default t c = (
  λ h. absurd (false≢true h),
  λ e. absurd (not_items (slots_of (slots_from c.args.child.now c.args.start c.args.length)) c.args.other c.in_default.not-Items e),
)

pub is_row-returns-in-Row : goal.is_row-returns-in-Row
is_row-returns-in-Row t c =
    let own = row_at c.args.i c.args.children.now in
    subst (λ p. IsTrue c.rows_same.result ↔ (parts (slots_of own) ≡ slot_of p)) (sym c.in-Row.is)
    (parts_same own (row_at c.in-Row.j c.in-Row.other_children.now) c.rows_same.result c.rows_same.ensures)

pub is_row-returns-in_default : goal.is_row-returns-in_default
is_row-returns-in_default t c = (
  λ h. absurd (false≢true h),
  λ e. absurd (not_row (slots_of (row_at c.args.i c.args.children.now)) c.args.other c.in_default.not-Row e),
)

pub is_chosen-returns-in_default : goal.is_chosen-returns-in_default
is_chosen-returns-in_default t c = (
  λ h. absurd (false≢true h),
  λ e. absurd (not_chosen c.args.number (slot_at c.args.child.now c.args.i) c.args.other c.in_default.not-Chosen e),
)
