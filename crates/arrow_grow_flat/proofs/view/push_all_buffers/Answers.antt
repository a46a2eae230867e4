use Rattle.std.proofs.Common.{◌≡◌, ◌++◌, ◌∷◌, [], length, map, take, ap, ap₂, sym, ◌∙◌, arith}
use Rattle.std.proofs.lemmas.List.{length-map, map-append}
use Rattle.arrow_flat.specs.Natives.{octets}
use Rattle.arrow_views.specs.ViewArrays.{ViewArray}
use Rattle.arrow_grow_flat.specs.SharedViews.{joined_buffers}
use Rattle.arrow_grow_flat.proofs.SharedViews.{joined_more, starts_more}
use Rattle.arrow_grow_flat.proofs.view.push_all_buffers.Goals as goal

pub loop-array-preserved : goal.loop-array-preserved
loop-array-preserved g c =
    let arrays = c.args.arrays.now in
    let i = c.loop-array.array-index in
    let a = c.array-item.result in
    let bs = c.loop-array.buffers.items in
    let before : c.len.result ≡ length (joined_buffers (take i arrays)) =
    omega (arith, c.len.ensures, c.loop-array.buffers.ok.0, length-map bs octets, ap length c.loop-array.invariant.joined) in
    record {
      starts =
          c.in_ok-push.ensures.items ∙ ap₂ (λ ns n. ns ++ n ∷ []) c.loop-array.invariant.starts before ∙ sym (starts_more arrays i a c.loop-array-test.true);
      joined =
          ap (map octets) c.in_ok-push_buffers.ensures ∙ map-append octets bs c.data_buffers.result.now
          ∙ ap₂ (λ xs ys. xs ++ ys) c.loop-array.invariant.joined (c.data_buffers.ensures ∙ ap (λ (b : ViewArray). b.buffers) c.array-item.is)
          ∙ sym (joined_more arrays i a c.loop-array-test.true);
    }
