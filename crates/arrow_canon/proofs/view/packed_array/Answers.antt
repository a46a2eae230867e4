use Rattle.std.proofs.Common.{◌≡◌, ◌^◌, map, sum, length, [], ap, sym, subst, ◌∙◌}
use Rattle.std.specs.List.{AllByRecursion}
use Rattle.std.specs.Prelude.{◌≤◌}
use Rattle.arrow_flat.specs.Natives.{octets}
use Rattle.arrow_flat.specs.Packs.{view_limit, pack, packed_views}
use Rattle.arrow_flat.specs.Views.{longs}
use Rattle.arrow_types.specs.Seen.{seen}
use Rattle.arrow_types.specs.Types.{physical_of}
use Rattle.arrow_meaning.specs.Nodes.{view_layout}
use Rattle.arrow_canon.specs.Picks.{picks, picked_mask}
use Rattle.arrow_canon.specs.Runs.{places, AreWithinMask}
use Rattle.arrow_canon.proofs.Places.{within_mask}
use Rattle.arrow_canon.proofs.Views.{slot_values, values_fit_packed, stored_for, mask_of_parts, views_of_parts, texts_of_parts, layout_of_parts}
use Rattle.arrow_canon.proofs.view.packed_array.Goals as goal

pub pack_values-requires-clause-fit : goal.pack_values-requires-clause-fit
pack_values-requires-clause-fit g c =
    let a = c.args.values.now.array.now in
    subst (λ ps. AllByRecursion (λ v. length v ≤ view_limit) (picks [] (slot_values a) ps)) (sym c.requires.places)
    (values_fit_packed g.T.ViewType.IS_TEXT a c.invariant.ensures.sound c.args.runs.now c.requires.within)

pub pack_values-requires-clause-few : goal.pack_values-requires-clause-few
pack_values-requires-clause-few g c =
    let a = c.args.values.now.array.now in
    subst (λ ps. sum (map length (picks [] (slot_values a) ps)) ≤ 2 ^ 62) (sym c.requires.places) c.requires.few

pub mask_of_runs-requires : goal.mask_of_runs-requires
mask_of_runs-requires g c =
    let a = c.args.values.now.array.now in
    subst (λ m. AreWithinMask m c.args.runs.now) (sym c.validity.ensures) (within_mask a.mask (length a.views) c.args.runs.now c.invariant.ensures.sound.array.fits c.requires.within)

pub new-requires-clause-fits : goal.new-requires-clause-fits
new-requires-clause-fits g c =
    let a = c.args.values.now.array.now in
    let us : c.in_ok-views-2.views ≡ packed_views view_limit (picks [] (slot_values a) (places c.args.runs.now)) =
    c.in_ok-views-2.ensures ∙ c.in_ok-views.ensures.views ∙ ap (λ ps. packed_views view_limit (picks [] (slot_values a) ps)) c.requires.places in
    mask_of_parts g.T.ViewType.IS_TEXT a c.invariant.ensures.sound c.args.runs.now c.requires.within c.in_ok-validity.validity c.in_ok-views-2.views
    (c.in_ok-validity.ensures ∙ ap (λ m. picked_mask m (places c.args.runs.now)) c.validity.ensures) us

pub new-requires-clause-stored : goal.new-requires-clause-stored
new-requires-clause-stored g c =
    ap (λ d. physical_of (seen d)) c.in_ok-dtype.ensures
    ∙ stored_for g.T.ViewType.IS_TEXT c.args.values.now.array.now c.invariant.ensures.sound c.args.runs.now c.requires.within (seen c.args.dtype.now) c.requires.of_type

pub new-requires-clause-placed : goal.new-requires-clause-placed
new-requires-clause-placed g c =
    let a = c.args.values.now.array.now in
    let us : c.in_ok-views-2.views ≡ packed_views view_limit (picks [] (slot_values a) (places c.args.runs.now)) =
    c.in_ok-views-2.ensures ∙ c.in_ok-views.ensures.views ∙ ap (λ ps. packed_views view_limit (picks [] (slot_values a) ps)) c.requires.places in
    let bs : map octets c.in_ok-views.buffers.items ≡ pack view_limit (longs (picks [] (slot_values a) (places c.args.runs.now))) =
    c.in_ok-views.ensures.buffers ∙ ap (λ ps. pack view_limit (longs (picks [] (slot_values a) ps))) c.requires.places in
    views_of_parts g.T.ViewType.IS_TEXT a c.invariant.ensures.sound c.args.runs.now c.requires.within c.invariant.ensures.counted c.requires.counted c.data_buffers.result.now c.data_buffers.ensures c.requires.few
    c.in_ok-views-2.views (map octets c.in_ok-views.buffers.items) us bs

pub new-requires-clause-texts : goal.new-requires-clause-texts
new-requires-clause-texts g c =
    let a = c.args.values.now.array.now in
    let us : c.in_ok-views-2.views ≡ packed_views view_limit (picks [] (slot_values a) (places c.args.runs.now)) =
    c.in_ok-views-2.ensures ∙ c.in_ok-views.ensures.views ∙ ap (λ ps. packed_views view_limit (picks [] (slot_values a) ps)) c.requires.places in
    let bs : map octets c.in_ok-views.buffers.items ≡ pack view_limit (longs (picks [] (slot_values a) (places c.args.runs.now))) =
    c.in_ok-views.ensures.buffers ∙ ap (λ ps. pack view_limit (longs (picks [] (slot_values a) ps))) c.requires.places in
    texts_of_parts g.T.ViewType.IS_TEXT a c.invariant.ensures.sound c.args.runs.now c.requires.within c.invariant.ensures.counted c.requires.counted c.data_buffers.result.now c.data_buffers.ensures c.requires.few
    c.in_ok-views-2.views (map octets c.in_ok-views.buffers.items) us bs

pub returns : goal.returns
returns g c =
    let a = c.args.values.now.array.now in
    let us : c.in_ok-views-2.views ≡ packed_views view_limit (picks [] (slot_values a) (places c.args.runs.now)) =
    c.in_ok-views-2.ensures ∙ c.in_ok-views.ensures.views ∙ ap (λ ps. packed_views view_limit (picks [] (slot_values a) ps)) c.requires.places in
    let bs : map octets c.in_ok-views.buffers.items ≡ pack view_limit (longs (picks [] (slot_values a) (places c.args.runs.now))) =
    c.in_ok-views.ensures.buffers ∙ ap (λ ps. pack view_limit (longs (picks [] (slot_values a) ps))) c.requires.places in
    ap view_layout c.new.ensures
    ∙ layout_of_parts g.T.ViewType.IS_TEXT a c.invariant.ensures.sound c.args.runs.now c.requires.within (seen c.args.dtype.now) c.requires.of_type
    (record { dtype = c.in_ok-dtype.dtype; views = c.in_ok-views-2.views; buffers = map octets c.in_ok-views.buffers.items; mask = c.in_ok-validity.validity })
    (ap seen c.in_ok-dtype.ensures) us bs (c.in_ok-validity.ensures ∙ ap (λ m. picked_mask m (places c.args.runs.now)) c.validity.ensures)
