use Rattle.std.proofs.Common.{sym, subst, ap, ◌∙◌}
use Rattle.arrow_flat.specs.Primitives.{HasRange}
use Rattle.arrow_layout.specs.Cut.{part}
use Rattle.arrow_grow_flat.specs.Grown.{source}
use Rattle.arrow_grow_flat.specs.Masks.{bits_in, more_bits}
use Rattle.arrow_grow_flat.proofs.Steps.{mask_has_range, mask_lost, mask_refused, run_inside, run_grows, taken}
use Rattle.arrow_grow_flat.proofs.flat.FlatGrowable.extend_slots.Goals as goal

pub extend_mask-requires : goal.extend_mask-requires
extend_mask-requires g c =
    let s = c.self.inside in
    subst (λ m. HasRange m c.args.start c.args.len) (sym c.mask.ensures)
    (mask_has_range g.V.GrowableValues.blank (g.V.GrowableValues.seen s.values) s.validity s.failed c.args.self.now c.self.view_is c.invariant.ensures c.self.invariant c.args.index c.args.start c.args.len c.requires)

pub invariant_of-self : goal.invariant_of-self
invariant_of-self g c =
    let s = c.self.inside in
    mask_lost g.V.GrowableValues.blank (g.V.GrowableValues.seen s.values) s.validity s.failed c.args.self.now c.self.view_is c.self.invariant c.extend_mask.new.mask c.in_err-extend_mask.ensures.err

pub returns-in_err-extend_mask : goal.returns-in_err-extend_mask
returns-in_err-extend_mask g c =
    let s = c.self.inside in
    mask_refused g.V.GrowableValues.blank (g.V.GrowableValues.seen s.values) s.validity s.failed c.args.self.now c.self.view_is (part c.args.start c.args.len (source c.args.self.now c.args.index)) c.extend_mask.new.mask c.in_err-extend_mask.ensures.err c.from_residual.result c.from_residual.ensures.1

pub extend-requires-clause-reached : goal.extend-requires-clause-reached
extend-requires-clause-reached g c =
    let s = c.self.inside in
    (taken g.V.GrowableValues.blank (g.V.GrowableValues.seen s.values) s.validity s.failed c.args.self.now c.self.view_is c.args.index c.args.start c.args.len c.invariant.ensures c.requires).reached

pub invariant_of-self-2 : goal.invariant_of-self-2
invariant_of-self-2 g c =
    let s = c.self.inside in
    run_inside g.V.GrowableValues.blank (g.V.GrowableValues.seen s.values) s.validity s.failed c.args.self.now c.self.view_is c.invariant.ensures c.self.invariant c.args.index c.args.start c.args.len c.requires
    (g.V.GrowableValues.seen c.extend.new.self) c.extend_mask.new.mask
    (c.in_ok-extend_mask.ensures.ok ∙ ap (λ m. more_bits (bits_in m c.args.start c.args.len) s.validity) c.mask.ensures) c.in_ok-extend.ensures

pub returns : goal.returns
returns g c =
    let s = c.self.inside in
    run_grows g.V.GrowableValues.blank (g.V.GrowableValues.seen s.values) s.validity s.failed c.args.self.now c.self.view_is c.invariant.ensures c.self.invariant c.args.index c.args.start c.args.len c.requires
    (g.V.GrowableValues.seen c.extend.new.self) c.extend_mask.new.mask
    (c.in_ok-extend_mask.ensures.ok ∙ ap (λ m. more_bits (bits_in m c.args.start c.args.len) s.validity) c.mask.ensures) c.in_ok-extend.ensures
