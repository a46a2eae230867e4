use Rattle.std.proofs.Common.{replicate}
use Rattle.arrow_flat.specs.Slots.{null}
use Rattle.arrow_grow_flat.proofs.Steps.{mask_lost, mask_refused, nulls_inside, nulls_grow}
use Rattle.arrow_grow_flat.proofs.flat.FlatGrowable.extend_nulls.Goals as goal

pub invariant_of-self : goal.invariant_of-self
invariant_of-self g c =
    let s = c.self.inside in
    mask_lost g.V.GrowableValues.blank (g.V.GrowableValues.seen s.values) s.validity s.failed c.args.self.now c.self.view_is c.self.invariant c.extend_unset.new.mask c.in_err-extend_unset.ensures.err

pub returns-in_err-extend_unset : goal.returns-in_err-extend_unset
returns-in_err-extend_unset g c =
    let s = c.self.inside in
    mask_refused g.V.GrowableValues.blank (g.V.GrowableValues.seen s.values) s.validity s.failed c.args.self.now c.self.view_is (replicate c.args.additional null) c.extend_unset.new.mask c.in_err-extend_unset.ensures.err c.from_residual.result c.from_residual.ensures.1

pub invariant_of-self-2 : goal.invariant_of-self-2
invariant_of-self-2 g c =
    let s = c.self.inside in
    nulls_inside g.V.GrowableValues.blank (g.V.GrowableValues.seen s.values) s.validity s.failed c.args.self.now c.self.view_is c.self.invariant c.requires.alive c.requires.nulls c.args.additional
    (g.V.GrowableValues.seen c.extend_nulls.new.self) c.extend_unset.new.mask c.in_ok-extend_unset.ensures.ok c.in_ok-extend_nulls.ensures

pub returns : goal.returns
returns g c =
    let s = c.self.inside in
    nulls_grow g.V.GrowableValues.blank (g.V.GrowableValues.seen s.values) s.validity s.failed c.args.self.now c.self.view_is c.self.invariant c.requires.alive c.requires.nulls c.args.additional
    (g.V.GrowableValues.seen c.extend_nulls.new.self) c.extend_unset.new.mask c.in_ok-extend_unset.ensures.ok c.in_ok-extend_nulls.ensures
