use Rattle.std.proofs.Common.{length, ap, ◌∙◌, arith}
use Rattle.std.proofs.lemmas.List.{length-map}
use Rattle.arrow_flat.specs.Natives.{octets}
use Rattle.arrow_views.specs.ViewArrays.{ViewArray}
use Rattle.arrow_grow_flat.proofs.SharedViews.{buffers_past}
use Rattle.arrow_grow_flat.proofs.view.has_few_buffers.Goals as goal

pub returns-then-more-total : goal.returns-then-more-total
returns-then-more-total g c =
    let bs = c.data_buffers-more.result.now in
    let past = buffers_past c.args.arrays.now c.loop-array.array-index c.array-item.result c.loop-array-test.true in
    let more = ap length (c.data_buffers-more.ensures ∙ ap (λ (a : ViewArray). a.buffers) c.array-item.is) in
    (λ t. absurd (let q = t in cc), λ few. absurd (omega (arith, few, past, more, length-map bs octets, c.if-more-total.true, c.loop-array.invariant.counted)))
