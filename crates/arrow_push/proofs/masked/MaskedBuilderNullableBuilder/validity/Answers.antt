use Rattle.std.proofs.Common.{◌≡◌, map, sym, subst, IfSome, IfNone}
use Rattle.arrow_flat.specs.Slots.{is_valid}
use Rattle.arrow_push.specs.Nulls.{AreValid}
use Rattle.arrow_push.specs.State.{state}
use Rattle.arrow_push.proofs.Nulls.{states, states_some, states_none}
use Rattle.arrow_push.proofs.masked.MaskedBuilderNullableBuilder.validity.Goals as goal

pub returns-clause-bits : goal.returns-clause-bits
returns-clause-bits g c =
    let b = c.args.self.now in
    let s = states b.validity (g.V.Building.seen b.values).slots b.fits (g.met.V.ValuesLaws.valid b.values) in
    subst (λ m. IfSome m (λ bits. bits ≡ map is_valid (state b).slots)) (sym c.as_ref.ensures.value) (states_some b.validity (state b).slots s)

pub returns-clause-none : goal.returns-clause-none
returns-clause-none g c =
    let b = c.args.self.now in
    let s = states b.validity (g.V.Building.seen b.values).slots b.fits (g.met.V.ValuesLaws.valid b.values) in
    subst (λ m. IfNone m (AreValid (state b).slots)) (sym c.as_ref.ensures.value) (states_none b.validity (state b).slots s)
