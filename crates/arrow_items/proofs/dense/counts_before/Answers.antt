use Rattle.std.proofs.Common.{◌≡◌, ◌^◌, ◌<◌, [], ◌∷◌, ◌++◌, map, pos, take, length, get_or, replicate, sym, ap, ◌∙◌, subst, arith}
use Rattle.std.proofs.lemmas.List.{length-replicate, take_more}
use Rattle.std.proofs.lemmas.Result.{err_from_is_err_and}
use Rattle.std.specs.List.{AllByRecursion}
use Rattle.arrow_types.specs.Carried.{IsBelow}
use Rattle.arrow_layout.specs.Canon.{counts_after}
use Rattle.arrow_items.specs.Dealt.{AreCounts}
use Rattle.arrow_items.proofs.Occurrences.{counts_step, count_fits, field_low, zeros_at, below_and}
use Rattle.arrow_items.proofs.dense.counts_before.Goals as goal

pub loop-field-init : goal.loop-field-init
loop-field-init c =
    let e : c.in_ok-counts.counts.items ≡ replicate c.args.count 0 = c.in_ok-counts.ensures in (
      c.new-offsets.ensures.items,
      λ k h. ap (λ xs. get_or xs k 0) e ∙ zeros_at c.args.count k,
      ap length e ∙ length-replicate c.args.count 0,
      subst (AllByRecursion (IsBelow (2 ^ 31))) (sym c.new-offsets.ensures.items) tt,
    )

pub push_count-requires : goal.push_count-requires
push_count-requires c = omega (arith, field_low c.args.count c.args.fields.now c.loop-field.field-index c.loop-field-test.true c.requires, c.loop-field.invariant.2)

pub returns-in_err-push_count-clause-overflow : goal.returns-in_err-push_count-clause-overflow
returns-in_err-push_count-clause-overflow c = λ e all.
    let fs = c.args.fields.now in
    let i = c.loop-field.field-index in
    let p = err_from_is_err_and c.from_residual-in_err-push_count.result c.from_residual-in_err-push_count.ensures.1 in
    let many = c.in_err-push_count.ensures.overflow (cc (p.1, p.2, e)) in
    let low : get_or fs i 0 < length c.loop-field.counts.items = omega (arith, field_low c.args.count fs i c.loop-field-test.true c.requires, c.loop-field.invariant.2) in
    let here = c.loop-field.invariant.1 (get_or fs i 0) low in
    omega (arith, many, here, count_fits (2 ^ 31) fs i c.loop-field-test.true all)

pub loop-field-preserved : goal.loop-field-preserved
loop-field-preserved c =
    let fs = c.args.fields.now in
    let i = c.loop-field.field-index in
    let f = get_or fs i 0 in
    let low : f < length c.loop-field.counts.items = omega (arith, field_low c.args.count fs i c.loop-field-test.true c.requires, c.loop-field.invariant.2) in
    let here = c.loop-field.invariant.1 f low in (
      c.in_ok-push_count.ensures.pushed
          ∙ ap (λ zs. zs ++ pos (get_or c.loop-field.counts.items f 0) ∷ []) c.loop-field.invariant.0
          ∙ ap (λ n. map pos (counts_after [] (take i fs)) ++ pos n ∷ []) here
          ∙ counts_step fs i c.loop-field-test.true,
      subst (AreCounts c.push_count.new.counts.items) (sym (take_more fs i 0 c.loop-field-test.true)) (c.in_ok-push_count.ensures.counted (take i fs) c.loop-field.invariant.1),
      c.in_ok-push_count.ensures.kept ∙ c.loop-field.invariant.2,
      subst (AllByRecursion (IsBelow (2 ^ 31))) (sym c.in_ok-push_count.ensures.pushed)
          (below_and (2 ^ 31) c.loop-field.offsets.items (get_or c.loop-field.counts.items f 0) c.loop-field.invariant.3 c.in_ok-push_count.ensures.fits),
    )
