use Rattle.std.proofs.Common.{◌≡◌, ◌-◌, [], ◌∷◌, Some, ap, arith, length, length-append, slice_get, sym, ◌∙◌}
use Rattle.std.proofs.lemmas.Grind.{common_steps}
use Rattle.arrow_nested.specs.Lists.{list_values, lists_between, valid_list_values}
use Rattle.arrow_nested.proofs.Lists.{ok_becomes, same_some}
use Rattle.arrow_nested.proofs.NonNull.{step_last}
use Rattle.arrow_nested.proofs.non_null.NonNullValuesIterDoubleEndedIterator.next_back.Goals as goal

pub invariant_of-self : goal.invariant_of-self
invariant_of-self g c =
    let it = c.self.inside in
    let kept = c.self.invariant in
    let last = c.last_valid-end in
    let found = step_last it.array.now c.invariant.ensures.lists c.invariant.ensures.well_formed it.front it.back it.left last.result kept.1 kept.2 (λ z. c.if-self-eq0.false z) last.ensures.within.1 last.ensures.same last.ensures.valid in
    let e = ap length found.2 ∙ length-append (lists_between (valid_list_values it.array.now) it.front (last.result - 1)) (found.0 ∷ []) in
    let below = found.3 in
    let top = last.ensures.within.1 in
    let count = kept.2 in
    let within = kept.1 in
    (omega (arith, below), omega (arith, top, within), omega (arith, e, count))

pub returns-clause-steps : goal.returns-clause-steps
returns-clause-steps g c =
    let it = c.self.inside in
    let kept = c.self.invariant in
    let last = c.last_valid-end in
    let found = step_last it.array.now c.invariant.ensures.lists c.invariant.ensures.well_formed it.front it.back it.left last.result kept.1 kept.2 (λ z. c.if-self-eq0.false z) last.ensures.within.1 last.ensures.same last.ensures.valid in (
      found.0,
      sym c.self.view_is ∙ found.2,
      ok_becomes (λ a. slice_get (list_values it.array.now) (last.result - 1) ≡ Some a) (λ a. a ≡ found.0) (λ a h. same_some a found.0 (sym h ∙ found.1)) c.value.result c.value.ensures,
    )

pub returns-clause-goes : goal.returns-clause-goes
returns-clause-goes g c = let e = ap length (returns-clause-steps g c).1 in grind (arith, common_steps)
