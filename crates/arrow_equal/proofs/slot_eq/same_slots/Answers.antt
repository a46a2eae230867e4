use Rattle.std.proofs.Common.{◌≡◌, ap, arith, refl, sym, ◌∙◌}
use Rattle.std.proofs.lemmas.Bool.{false≢true}
use Rattle.arrow_equal.proofs.Ranges.{first_next, lengths_same, slot_same, whole_range}
use Rattle.arrow_layout.specs.Layouts.{length_of}
use Rattle.arrow_equal.specs.SlotParts.{slots_from}
use Rattle.arrow_equal.proofs.slot_eq.same_slots.Goals as goal

pub loop-i-preserved : goal.loop-i-preserved
loop-i-preserved g c =
    first_next (g.T.FlatNode.layout c.args.lhs.now) (g.T.FlatNode.layout c.args.rhs.now) c.loop-i.i c.invariant.ensures.sound c.invariant-2.ensures.sound (omega arith) (omega arith) c.loop-i.invariant
    (c.slot_parts.ensures.value ∙ c.same_parts.ensures.0 c.if-not-same_parts.false ∙ sym c.slot_parts-in-loop-i.ensures.value)

pub returns-then-not-same_parts : goal.returns-then-not-same_parts
returns-then-not-same_parts g c = (
  λ t. absurd (false≢true t),
  λ e. sym c.if-not-same_parts.true ∙ c.same_parts.ensures.1 (sym c.slot_parts.ensures.value ∙ slot_same (g.T.FlatNode.layout c.args.lhs.now) (g.T.FlatNode.layout c.args.rhs.now) c.loop-i.i e ∙ c.slot_parts-in-loop-i.ensures.value),
)

pub returns-then-len : goal.returns-then-len
returns-then-len g c =
    let same = lengths_same (g.T.FlatNode.layout c.args.lhs.now) (g.T.FlatNode.layout c.args.rhs.now) c.invariant.ensures.sound c.invariant-2.ensures.sound in
    (λ t. absurd (false≢true t), λ e. absurd (c.if-len.true (c.len.ensures ∙ same e ∙ sym c.len-2.ensures)))

pub returns : goal.returns
returns g c =
    let l = g.T.FlatNode.layout c.args.lhs.now in
    let r = g.T.FlatNode.layout c.args.rhs.now in
    let left : c.loop-i.i ≡ length_of l = omega (arith, c.loop-i-test.false, c.loop-i.auto.i-end, c.len-i-end.ensures) in
    let right : c.loop-i.i ≡ length_of r = omega (arith, left, c.len.ensures, c.if-len.false, c.len-2.ensures) in
    (λ t. sym (ap (slots_from l 0) left ∙ whole_range l c.invariant.ensures.sound) ∙ c.loop-i.invariant ∙ ap (slots_from r 0) right ∙ whole_range r c.invariant-2.ensures.sound, λ e. refl)
