use Rattle.std.proofs.Common.{◌≡◌, ◌∷◌, [], sym, ap, ◌∙◌, subst}
use Rattle.arrow_canon.specs.declared.run.Run.TheVariants.{Slots, Fill}
use Rattle.arrow_grow_flat.specs.Grown.{Grows}
use Rattle.arrow_growable.specs.NestedGrown.{MayTake, taken_of}
use Rattle.arrow_growable.proofs.FlatRuns.{fill_taken, fills_there, slots_taken, slots_there}
use Rattle.arrow_growable.proofs.flat_runs.extend_run.Goals as goal

pub extend_validity-requires-clause-nulls : goal.extend_validity-requires-clause-nulls
extend_validity-requires-clause-nulls g c =
    let a = g.G.Growable.seen c.args.growable.now in
    fills_there a c.args.index c.in-Fill.count (subst (λ r. MayTake a c.args.index (r ∷ [])) c.in-Fill.is c.requires)

pub returns-in-Slots : goal.returns-in-Slots
returns-in-Slots g c =
    let a = g.G.Growable.seen c.args.growable.now in
    let b = g.G.Growable.seen c.extend.new.self in
    let v = c.in-Slots in
    let there = slots_there a c.args.index v.start v.length (subst (λ r. MayTake a c.args.index (r ∷ [])) v.is c.requires) in
    let same = slots_taken a c.args.index v.start v.length there.reached ∙ ap (λ r. taken_of a c.args.index (r ∷ [])) (sym v.is) in
    subst (λ xs. Grows a xs b c.extend.result) same c.extend.ensures

pub returns-in-Fill : goal.returns-in-Fill
returns-in-Fill g c =
    let a = g.G.Growable.seen c.args.growable.now in
    let b = g.G.Growable.seen c.extend_validity.new.self in
    let v = c.in-Fill in
    let same = fill_taken a c.args.index v.count ∙ ap (λ r. taken_of a c.args.index (r ∷ [])) (sym v.is) in
    subst (λ xs. Grows a xs b c.extend_validity.result) same c.extend_validity.ensures
