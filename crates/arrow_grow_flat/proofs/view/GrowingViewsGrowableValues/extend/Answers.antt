use Rattle.std.proofs.Common.{◌≡◌, ◌++◌, length, map, subst, ap, sym, arith}
use Rattle.std.specs.Prelude.{OnOk}
use Rattle.arrow_types.specs.Seen.{seen}
use Rattle.arrow_flat.specs.Natives.{octets}
use Rattle.arrow_views.specs.ViewArrays.{values_in}
use Rattle.arrow_layout.specs.Cut.{part}
use Rattle.arrow_layout.specs.Denote.{denote}
use Rattle.arrow_grow_flat.specs.Grown.{layout_at}
use Rattle.arrow_grow_flat.specs.Values.{GrowsValues}
use Rattle.arrow_grow_flat.specs.SharedViews.{AreGrowingViews, AreLongValues, AreShared, AreViewsOf, IsEmptyValue, KeepViews, long_buffers, slot_values, view_values}
use Rattle.arrow_grow_flat.specs.declared.view.LongValues.TheVariants as long_values
use Rattle.arrow_grow_flat.proofs.SharedViews.{length-starts}
use Rattle.arrow_grow_flat.proofs.PackedValues.{keep_itself}
use Rattle.arrow_grow_flat.proofs.ViewValues.{Extends, extend_grows, extend_inside, more_views, named_in, on_both, on_ok, reached_in, shared_numbered, shared_views}
use Rattle.arrow_grow_flat.proofs.view.GrowingViewsGrowableValues.extend.Goals as goal
use Rattle.arrow_grow_flat.proofs.view.GrowingViewsGrowableValues.extend.Goals.{in-Shared, in-Packed}

pub index-requires : goal.index-requires
index-requires g c =
    let s = c.self.inside in
    let arrays = s.arrays.items in
    let held : AreShared arrays c.in-Shared.starts.items (map octets c.in-Shared.buffers.items) = subst (AreLongValues arrays) c.in-Shared.is c.self.invariant.0 in
    omega (arith, c.in-Shared.starts.ok.0, ap length held.begin, length-starts 0 arrays, named_in (seen s.dtype) arrays (long_buffers s.values) s.views.items c.args.self.now c.self.view_is c.args.index c.requires.named)

pub extend_shared-requires-clause-numbered : goal.extend_shared-requires-clause-numbered
extend_shared-requires-clause-numbered g c =
    let s = c.self.inside in
    let arrays = s.arrays.items in
    let held : AreShared arrays c.in-Shared.starts.items (map octets c.in-Shared.buffers.items) = subst (AreLongValues arrays) c.in-Shared.is c.self.invariant.0 in
    shared_numbered arrays c.in-Shared.starts.items (map octets c.in-Shared.buffers.items) held c.args.index c.index-array.result.now c.index.result.now
    (named_in (seen s.dtype) arrays (long_buffers s.values) s.views.items c.args.self.now c.self.view_is c.args.index c.requires.named) c.index-array.ensures c.index.ensures

same_dtype : (g : _) (c : goal.Joined-self g) → seen c.match-self.self-inside.dtype ≡ seen c.self.inside.dtype
same_dtype g c =
    elim c.match-self.branch [
      | in-Shared w ↦ ap (λ x. seen x.dtype) w.self-inside-is
      | in-Packed w ↦ ap (λ x. seen x.dtype) w.self-inside-is
    ]

same_arrays : (g : _) (c : goal.Joined-self g) → c.match-self.self-inside.arrays.items ≡ c.self.inside.arrays.items
same_arrays g c =
    elim c.match-self.branch [
      | in-Shared w ↦ ap (λ x. x.arrays.items) w.self-inside-is
      | in-Packed w ↦ ap (λ x. x.arrays.items) w.self-inside-is
    ]

extended : (g : _) (c : goal.Joined-self g)
    → Extends g.T.ViewType.IS_TEXT (seen c.self.inside.dtype) c.self.inside.arrays.items c.self.inside.values c.self.inside.views.items c.self.inside.total c.args.self.now c.args.index
    c.index-array.result.now c.args.start c.args.len c.match-self.self-inside.values c.match-self.self-inside.views.items c.match-self.self-inside.total c.match-self.result
extended g c =
    let s = c.self.inside in
    let text = g.T.ViewType.IS_TEXT in
    let t = seen s.dtype in
    let arrays = s.arrays.items in
    let vs = s.views.items in
    let now = c.args.self.now in
    let i = c.args.index in
    let a = c.index-array.result.now in
    let o = c.args.start in
    let n = c.args.len in
    let named = named_in t arrays (long_buffers s.values) vs now c.self.view_is i c.requires.named in
    let reached = reached_in t arrays (long_buffers s.values) vs now c.self.view_is i a c.index-array.ensures c.requires.named o n c.requires.reached in
    elim c.match-self.branch [
      | in-Shared w ↦
          let bs = map octets w.in-Shared.buffers.items in
          let us = w.extend_shared.new.views.items in
          let r = w.extend_shared.result in
          let q = w.extend_shared.ensures in
          let held : AreShared arrays w.in-Shared.starts.items bs = subst (AreLongValues arrays) w.in-Shared.is c.self.invariant.0 in
          let inside : AreGrowingViews text t arrays bs vs s.total = subst (λ v. AreGrowingViews text t arrays (long_buffers v) vs s.total) w.in-Shared.is c.self.invariant.1 in
          let more = shared_views arrays w.in-Shared.starts.items bs held i a w.index.result.now named c.index-array.ensures w.index.ensures vs us o n inside.placed c.invariant.ensures.placed reached in
          subst (λ x. Extends text t arrays s.values vs s.total now i a o n x.values x.views.items x.total c.match-self.result) (sym w.self-inside-is)
          (subst (Extends text t arrays s.values vs s.total now i a o n (long_values.Shared w.in-Shared.starts w.in-Shared.buffers) us w.extend_shared.new.total) (sym w.result-is)
          (record {
            still = held;
            keep = subst (λ v. KeepViews (long_buffers v) bs) (sym w.in-Shared.is) (keep_itself bs);
            are = subst (λ v. OnOk r (AreViewsOf bs us (values_in (long_buffers v) vs ++ slot_values a o n))) (sym w.in-Shared.is) (on_ok r more q.more);
            count = q.counted;
            small = q.within;
            same = q.same;
            why = q.overflow;
          }))
      | in-Packed w ↦
          let bs = w.in-Packed.packer.buffers in
          let cs = w.extend_packed.new.packer.buffers in
          let us = w.extend_packed.new.views.items in
          let r = w.extend_packed.result in
          let q = w.extend_packed.ensures in
          let inside : AreGrowingViews text t arrays bs vs s.total = subst (λ v. AreGrowingViews text t arrays (long_buffers v) vs s.total) w.in-Packed.is c.self.invariant.1 in
          subst (λ x. Extends text t arrays s.values vs s.total now i a o n x.values x.views.items x.total c.match-self.result) (sym w.self-inside-is)
          (subst (Extends text t arrays s.values vs s.total now i a o n (long_values.Packed w.extend_packed.new.packer) us w.extend_packed.new.total) (sym w.result-is)
          (record {
            still = q.limit;
            keep = subst (λ v. KeepViews (long_buffers v) cs) (sym w.in-Packed.is) q.keep;
            are = subst (λ v. OnOk r (AreViewsOf cs us (values_in (long_buffers v) vs ++ slot_values a o n))) (sym w.in-Packed.is)
                (on_both r (more_views bs cs vs us (slot_values a o n) q.keep inside.placed) q.front q.more);
            count = q.counted;
            small = q.within;
            same = q.same;
            why = q.overflow;
          }))
    ]

pub invariant_of-self : goal.invariant_of-self
invariant_of-self g c =
    let s = c.self.inside in
    let text = g.T.ViewType.IS_TEXT in
    let t = seen s.dtype in
    let arrays = s.arrays.items in
    let x = c.match-self.self-inside in
    subst (λ u. AreLongValues x.arrays.items x.values × AreGrowingViews text u x.arrays.items (long_buffers x.values) x.views.items x.total) (sym (same_dtype g c))
    (subst (λ ks. AreLongValues ks x.values × AreGrowingViews text t ks (long_buffers x.values) x.views.items x.total) (sym (same_arrays g c))
    (extend_inside text t arrays s.values s.views.items s.total c.args.self.now c.args.index c.index-array.result.now c.args.start c.args.len c.self.invariant.1 c.self.view_is c.invariant.ensures
    c.index-array.ensures c.requires.named c.requires.reached x.values x.views.items x.total c.match-self.result (extended g c)))

pub returns : goal.returns
returns g c =
    let s = c.self.inside in
    let text = g.T.ViewType.IS_TEXT in
    let t = seen s.dtype in
    let arrays = s.arrays.items in
    let x = c.match-self.self-inside in
    let v = c.args.self.now in
    let i = c.args.index in
    let xs = part c.args.start c.args.len (denote (layout_at v.arrays i)) in
    subst (λ u. GrowsValues IsEmptyValue v xs (view_values u x.arrays.items (long_buffers x.values) x.views.items) c.match-self.result) (sym (same_dtype g c))
    (subst (λ ks. GrowsValues IsEmptyValue v xs (view_values t ks (long_buffers x.values) x.views.items) c.match-self.result) (sym (same_arrays g c))
    (extend_grows text t arrays s.values s.views.items s.total v i c.index-array.result.now c.args.start c.args.len c.self.invariant.1 c.self.view_is c.invariant.ensures
    c.index-array.ensures c.requires.named c.requires.reached x.values x.views.items x.total c.match-self.result (extended g c) (omega (arith, x.views.ok.0, x.views.ok.1))))
