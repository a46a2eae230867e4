use Rattle.std.proofs.Common.{◌≡◌, Some, ap, arith, length, slice_get, sym, ◌∙◌}
use Rattle.std.proofs.lemmas.Grind.{common_steps}
use Rattle.arrow_nested.specs.Lists.{list_values}
use Rattle.arrow_nested.proofs.Lists.{ok_becomes, same_some}
use Rattle.arrow_nested.proofs.NonNull.{step_first}
use Rattle.arrow_nested.proofs.non_null.NonNullValuesIterIterator.next.Goals as goal

pub invariant_of-self : goal.invariant_of-self
invariant_of-self g c =
    let it = c.self.inside in
    let kept = c.self.invariant in
    let i = c.first_valid-i.result in
    let found = step_first it.array.now c.invariant.ensures.lists c.invariant.ensures.well_formed it.front it.back it.left i kept.1 kept.2 (λ z. c.if-self-eq0.false z) c.first_valid-i.ensures.same c.first_valid-i.ensures.valid in
    let e = ap length found.2 in
    let below = found.3 in
    let count = kept.2 in
    (omega (arith, below), kept.1, omega (arith, e, count))

pub returns-clause-steps : goal.returns-clause-steps
returns-clause-steps g c =
    let it = c.self.inside in
    let kept = c.self.invariant in
    let i = c.first_valid-i.result in
    let found = step_first it.array.now c.invariant.ensures.lists c.invariant.ensures.well_formed it.front it.back it.left i kept.1 kept.2 (λ z. c.if-self-eq0.false z) c.first_valid-i.ensures.same c.first_valid-i.ensures.valid in (
      found.0,
      sym c.self.view_is ∙ found.2,
      ok_becomes (λ a. slice_get (list_values it.array.now) i ≡ Some a) (λ a. a ≡ found.0) (λ a h. same_some a found.0 (sym h ∙ found.1)) c.value.result c.value.ensures,
    )

pub returns-clause-goes : goal.returns-clause-goes
returns-clause-goes g c = let e = ap length (returns-clause-steps g c).1 in grind (arith, common_steps)
