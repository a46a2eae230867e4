use Rattle.std.proofs.Common.{◌≡◌, suc, ◌+◌, ◌++◌, ◌∷◌, [], ap, sym, ◌∙◌, arith, append_assoc}
use Rattle.arrow_flat.specs.Views.{view_length}
use Rattle.arrow_grow_flat.specs.SharedViews.{byte_count, slot_value, slot_values, slot_views}
use Rattle.arrow_grow_flat.proofs.SharedViews.{slot_length}
use Rattle.arrow_grow_flat.proofs.ViewValues.{count_past, count_push}
use Rattle.arrow_grow_flat.proofs.view.push_shared.Goals as goal

pub returns-in_err-total-clause-overflow : goal.returns-in_err-total-clause-overflow
returns-in_err-total-clause-overflow g c refused =
    let a = c.args.array.now in
    let o = c.args.start in
    let i = c.loop-i.i in
    omega (
      arith,
      c.in_err-total.ensures.1,
      c.loop-i.invariant.counted,
      c.length.ensures.value,
      ap view_length c.slot_view-view.ensures,
      slot_length a c.args.first (o + i) c.invariant.ensures.placed (omega (arith, c.requires.reached, c.loop-i-test.true)),
      count_past a o i c.args.len c.loop-i-test.true,
    )

pub loop-i-preserved : goal.loop-i-preserved
loop-i-preserved g c =
    let a = c.args.array.now in
    let old = c.args.views.now.items in
    let i = c.loop-i.i in
    let first = c.args.first in
    let o = c.args.start in
    let vs = slot_views first a o i in
    let next : i + 1 ≡ suc i = omega arith in
    record {
      more =
          c.in_ok-push.ensures.items ∙ ap (λ xs. xs ++ c.slot_view-view.result ∷ []) c.loop-i.invariant.more ∙ append_assoc old vs (c.slot_view-view.result ∷ [])
          ∙ ap (λ v. old ++ (vs ++ v ∷ [])) c.slot_view-view.ensures ∙ ap (λ k. old ++ slot_views first a o k) (sym next);
      counted =
          omega (
            arith,
            c.in_ok-total.ensures.0,
            c.loop-i.invariant.counted,
            c.length.ensures.value,
            ap view_length c.slot_view-view.ensures,
            slot_length a first (o + i) c.invariant.ensures.placed (omega (arith, c.requires.reached, c.loop-i-test.true)),
            count_push (slot_values a o i) (slot_value a (o + i)),
            ap (λ k. byte_count (slot_values a o k)) next,
          );
      within = c.in_ok-total.ensures.1;
    }
