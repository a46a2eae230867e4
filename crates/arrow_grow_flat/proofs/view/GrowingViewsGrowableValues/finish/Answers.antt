use Rattle.std.proofs.Common.{◌≡◌, ap, map, sym, subst, ◌∙◌, rules}
use Rattle.arrow_types.specs.Seen.{seen}
use Rattle.arrow_flat.specs.Natives.{octets}
use Rattle.arrow_views.specs.ViewArrays.{AreViews, ViewArray, view_array}
use Rattle.arrow_meaning.specs.Nodes.{view_layout}
use Rattle.arrow_grow_flat.specs.SharedViews.{IsEmptyValue, long_buffers}
use Rattle.arrow_grow_flat.specs.Values.{IsOf, Values}
use Rattle.arrow_grow_flat.proofs.ViewValues.{array_of, inside_none}
use Rattle.arrow_grow_flat.proofs.view.GrowingViewsGrowableValues.finish.Goals as goal

pub invariant_of-self-in_err-buffers : goal.invariant_of-self-in_err-buffers
invariant_of-self-in_err-buffers g c =
    let s = c.self.inside in (
      c.finish.ensures.held s.arrays.items c.self.invariant.0,
      inside_none g.T.ViewType.IS_TEXT (seen s.dtype) s.arrays.items (long_buffers s.values) s.views.items s.total c.self.invariant.1 (long_buffers c.finish.new.self) c.replace-views.new.dest.items
          (ap (λ v. v.items) c.replace-views.ensures.after ∙ c.new.ensures.items),
    )

pub invariant_of-self-in_err-views : goal.invariant_of-self-in_err-views
invariant_of-self-in_err-views g c =
    let s = c.self.inside in (
      c.finish.ensures.held s.arrays.items c.self.invariant.0,
      inside_none g.T.ViewType.IS_TEXT (seen s.dtype) s.arrays.items (long_buffers s.values) s.views.items s.total c.self.invariant.1 (long_buffers c.finish.new.self) c.replace-views.new.dest.items
          (ap (λ v. v.items) c.replace-views.ensures.after ∙ c.new.ensures.items),
    )

pub invariant_of-self-2 : goal.invariant_of-self-2
invariant_of-self-2 g c =
    let s = c.self.inside in (
      c.finish.ensures.held s.arrays.items c.self.invariant.0,
      inside_none g.T.ViewType.IS_TEXT (seen s.dtype) s.arrays.items (long_buffers s.values) s.views.items s.total c.self.invariant.1 (long_buffers c.finish.new.self) c.replace-views.new.dest.items
          (ap (λ v. v.items) c.replace-views.ensures.after ∙ c.new.ensures.items),
    )

pub new-requires-2-clause-placed : goal.new-requires-2-clause-placed
new-requires-2-clause-placed g c =
    let s = c.self.inside in
    let same : c.in_ok-views.views ≡ s.views.items = search (rules) in
    subst (λ bs. AreViews bs c.in_ok-views.views) (sym c.in_ok-buffers.ensures.made) (subst (AreViews (long_buffers s.values)) (sym same) c.self.invariant.1.placed)

pub returns-clause-made : goal.returns-clause-made
returns-clause-made g c =
    let s = c.self.inside in
    let cs = map octets c.in_ok-buffers.buffers.items in
    let a = view_array c.in_ok-dtype.dtype c.in_ok-views.views cs c.args.validity in
    subst (λ (b : ViewArray). IsOf IsEmptyValue c.args.validity c.args.self.now (view_layout b)) (sym c.new-2.ensures)
    (subst (λ (v : Values). IsOf IsEmptyValue c.args.validity v (view_layout a)) c.self.view_is
    (array_of s.dtype c.in_ok-dtype.dtype s.arrays.items (long_buffers s.values) cs s.views.items c.in_ok-views.views c.args.validity
    c.self.invariant.1.placed c.in_ok-dtype.ensures (search (rules)) c.in_ok-buffers.ensures.made))
