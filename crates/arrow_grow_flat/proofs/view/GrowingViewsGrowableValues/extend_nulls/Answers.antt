use Rattle.std.proofs.Common.{◌≡◌, ◌+◌, ◌-◌, ◌++◌, Ok, Err, ap, replicate, take, vec_len, subst, ◌∙◌, arith}
use Rattle.arrow_types.specs.Seen.{seen}
use Rattle.arrow_types.specs.declared.error.GrowError.TheVariants as error
use Rattle.arrow_flat.specs.Slots.{null}
use Rattle.arrow_flat.specs.Views.{zero_view}
use Rattle.arrow_grow_flat.specs.SharedViews.{IsEmptyValue, long_buffers, view_values}
use Rattle.arrow_grow_flat.specs.Values.{GrowsValues, Values}
use Rattle.arrow_grow_flat.proofs.Counts.{at_least}
use Rattle.arrow_grow_flat.proofs.ViewValues.{nulls_full, nulls_grow, nulls_inside}
use Rattle.arrow_grow_flat.proofs.view.GrowingViewsGrowableValues.extend_nulls.Goals as goal

pub returns-in_default : goal.returns-in_default
returns-in_default g c =
    let s = c.self.inside in
    let n = c.args.additional in
    subst (λ (v : Values). GrowsValues IsEmptyValue v (replicate n null) v (Err error.Overflow)) c.self.view_is
    (nulls_full g.T.ViewType.IS_TEXT (seen s.dtype) s.arrays.items (long_buffers s.values) s.views.items s.total c.self.invariant.1 n
    (omega (arith, c.len.ensures, s.views.ok.0, at_least (c.len.result + n) c.in_default.ensures)))

resized_by : (g : _) (c : goal.In_ok-resize g) → c.resize.new.self.items ≡ take c.in-Some.length c.self.inside.views.items ++ replicate (c.in-Some.length - vec_len c.self.inside.views) zero_view
resized_by g c =
    let s = c.self.inside in
    c.in_ok-resize.ensures.items ∙ ap (λ v. take c.in-Some.length s.views.items ++ replicate (c.in-Some.length - vec_len s.views) v) c.new_inline.ensures

pub invariant_of-self-2 : goal.invariant_of-self-2
invariant_of-self-2 g c =
    let s = c.self.inside in
    let m = c.in-Some.length in
    let t = c.in-Some.ensures in
    let l = s.views.ok.0 in (
      c.self.invariant.0,
      nulls_inside g.T.ViewType.IS_TEXT (seen s.dtype) s.arrays.items (long_buffers s.values) s.views.items s.total c.self.invariant.1 c.resize.new.self.items
          m (m - vec_len s.views) c.args.additional (resized_by g c) (omega (arith, l, t.1, c.len.ensures)) (omega (arith, t.1, c.len.ensures)),
    )

pub returns : goal.returns
returns g c =
    let s = c.self.inside in
    let n = c.args.additional in
    let m = c.in-Some.length in
    let t = c.in-Some.ensures in
    let l = s.views.ok.0 in
    let ws = c.resize.new.self.items in
    subst (λ (v : Values). GrowsValues IsEmptyValue v (replicate n null) (view_values (seen s.dtype) s.arrays.items (long_buffers s.values) ws) (Ok tt)) c.self.view_is
    (nulls_grow g.T.ViewType.IS_TEXT (seen s.dtype) s.arrays.items (long_buffers s.values) s.views.items s.total c.self.invariant.1 ws
    m (m - vec_len s.views) n (resized_by g c) (omega (arith, l, t.1, c.len.ensures)) (omega (arith, t.1, c.len.ensures)) (omega (arith, l, t.0, c.len.ensures)))
