use Rattle.std.proofs.Common.{map, ap, sym, ◌∙◌, subst, arith}
use Rattle.arrow_flat.specs.Natives.{octets}
use Rattle.arrow_flat.specs.Primitives.{MaskHasLength}
use Rattle.arrow_views.specs.ViewArrays.{values_of}
use Rattle.arrow_push_bytes.proofs.ViewsPacked.{summed_total, views_count, views_read, views_placed, views_texts}
use Rattle.arrow_push_bytes.proofs.packed.packed_array.Goals as goal

pub pack_values-requires-clause-few : goal.pack_values-requires-clause-few
pack_values-requires-clause-few g c = omega (arith, summed_total c.args.strings.now, c.requires.sound.packed.few)

pub new-requires-clause-fits : goal.new-requires-clause-fits
new-requires-clause-fits g c =
    subst (MaskHasLength c.args.validity)
    (sym (views_count c.args.strings.now c.in_ok-views-2.views (map octets c.in_ok-views.buffers.items) (c.in_ok-views-2.ensures ∙ c.in_ok-views.ensures.views) c.in_ok-views.ensures.buffers))
    c.requires.fits

pub new-requires-clause-placed : goal.new-requires-clause-placed
new-requires-clause-placed g c =
    let packed = c.requires.sound.packed in
    views_placed c.args.strings.now c.in_ok-views-2.views (map octets c.in_ok-views.buffers.items) (c.in_ok-views-2.ensures ∙ c.in_ok-views.ensures.views) c.in_ok-views.ensures.buffers
    packed.fit packed.small packed.few

pub new-requires-clause-texts : goal.new-requires-clause-texts
new-requires-clause-texts g c =
    let packed = c.requires.sound.packed in
    views_texts c.args.strings.now c.in_ok-views-2.views (map octets c.in_ok-views.buffers.items) (c.in_ok-views-2.ensures ∙ c.in_ok-views.ensures.views) c.in_ok-views.ensures.buffers
    g.T.ViewType.IS_TEXT packed.fit packed.texts

pub returns-clause-kind : goal.returns-clause-kind
returns-clause-kind g c = ap (λ a. a.dtype) c.new.ensures ∙ c.in_ok-dtype.ensures

pub returns-clause-value : goal.returns-clause-value
returns-clause-value g c =
    ap values_of c.new.ensures
    ∙ views_read c.args.strings.now c.in_ok-views-2.views (map octets c.in_ok-views.buffers.items) (c.in_ok-views-2.ensures ∙ c.in_ok-views.ensures.views) c.in_ok-views.ensures.buffers c.requires.sound.packed.fit
