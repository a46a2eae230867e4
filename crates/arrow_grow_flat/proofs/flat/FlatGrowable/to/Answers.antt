use Rattle.std.proofs.Common.{false, length, sym, subst}
use Rattle.arrow_flat.specs.Primitives.{MaskHasLength}
use Rattle.arrow_grow_flat.specs.Grown.{Grown, Keeps, IsBoxed}
use Rattle.arrow_grow_flat.specs.Values.{IsGrowable, IsOf, grown_of}
use Rattle.arrow_grow_flat.proofs.Steps.{boxed, inside_emptied, keeps_left, mask_covers, opened, same_now}
use Rattle.arrow_grow_flat.proofs.flat.FlatGrowable.to.Goals as goal

pub finish-requires : goal.finish-requires
finish-requires g c =
    let s = c.self.inside in
    let P = g.V.GrowableValues.blank in
    let v = g.V.GrowableValues.seen s.values in
    let i = opened P v s.validity s.failed c.args.self.now c.self.view_is c.self.invariant c.requires in
    subst (λ m. MaskHasLength m (length v.slots)) (sym c.in_ok-validity.ensures.taken) (mask_covers P v s.validity i)

pub invariant_of-self-2 : goal.invariant_of-self-2
invariant_of-self-2 g c =
    let s = c.self.inside in
    let P = g.V.GrowableValues.blank in
    let v = g.V.GrowableValues.seen s.values in
    let w = g.V.GrowableValues.seen c.finish.new.self in
    let i = opened P v s.validity s.failed c.args.self.now c.self.view_is c.self.invariant c.requires in
    subst (λ m. IsGrowable P w m false) (sym c.in_ok-validity.ensures.left)
    (inside_emptied P v s.validity i w c.invariant.ensures c.finish.ensures.same_type c.finish.ensures.same_arrays c.in_ok-array.ensures.empty)

pub returns : goal.returns
returns g c =
    let s = c.self.inside in
    let P = g.V.GrowableValues.blank in
    let v = g.V.GrowableValues.seen s.values in
    let w = g.V.GrowableValues.seen c.finish.new.self in
    let a = c.in_ok-array.array in
    let l = g.V.GrowableValues.layout a in
    let i = opened P v s.validity s.failed c.args.self.now c.self.view_is c.self.invariant c.requires in
    let now = same_now P v s.validity s.failed c.args.self.now c.self.view_is c.requires in
    let made = subst (λ m. IsOf P m v l) c.in_ok-validity.ensures.taken c.in_ok-array.ensures.made in
    record {
      keeps =
          subst (λ (b : Grown). Keeps b (grown_of w c.take_mask.new.mask false)) now
          (subst (λ m. Keeps (grown_of v s.validity false) (grown_of w m false)) (sym c.in_ok-validity.ensures.left)
          (keeps_left P v s.validity i w c.invariant.ensures c.finish.ensures.same_type c.finish.ensures.same_arrays false));
      outcome =
          subst (λ (b : Grown). IsBoxed b l (grown_of w c.take_mask.new.mask false)) now
          (subst (λ m. IsBoxed (grown_of v s.validity false) l (grown_of w m false)) (sym c.in_ok-validity.ensures.left)
          (boxed P v s.validity i w c.invariant.ensures c.finish.ensures.same_type c.finish.ensures.same_arrays l c.in_ok-array.ensures.empty made));
    }
