use Rattle.std.proofs.Common.{◌<◌, ◌++◌, ◌∷◌, [], take, length, get_or, sym, ap, ap₂, ◌∙◌, subst, arith}
use Rattle.std.proofs.lemmas.Bool.{false≢true}
use Rattle.std.proofs.lemmas.List.{take_more}
use Rattle.arrow_canonical.specs.Counted.{AreCounts}
use Rattle.arrow_canonical.proofs.Occurrences.{counts_at, counts_more, field_low, nat_get, nat_more}
use Rattle.arrow_canonical.proofs.union.follow_counts.Goals as goal

pub loop-i-preserved : goal.loop-i-preserved
loop-i-preserved c =
    let fs = c.args.fields.now in
    let os = c.args.offsets.now in
    let i = c.loop-i.i in
    let f = get_or fs i 0 in
    let low : f < length c.loop-i.counts.items = omega (arith, field_low (length c.args.counts.now.items) fs i c.loop-i-test.true c.requires.fields, c.loop-i.invariant.2) in
    let within : i < length os = omega (arith, c.requires.offsets, c.loop-i-test.true) in (
      nat_more os i within ∙ ap₂ (λ xs n. xs ++ n ∷ []) c.loop-i.invariant.0 (sym (nat_get os i) ∙ sym c.offset_at.ensures.same ∙ c.is_next.ensures.told.0 c.if-not-is_next.false ∙ c.loop-i.invariant.1 f low) ∙ counts_more fs i c.loop-i-test.true,
      subst (AreCounts c.is_next.new.counts.items) (sym (take_more fs i 0 c.loop-i-test.true)) (c.is_next.ensures.counted c.if-not-is_next.false (take i fs) c.loop-i.invariant.1),
      c.is_next.ensures.kept ∙ c.loop-i.invariant.2,
    )

pub returns-then-not-is_next-clause-told : goal.returns-then-not-is_next-clause-told
returns-then-not-is_next-clause-told c =
    let fs = c.args.fields.now in
    let os = c.args.offsets.now in
    let i = c.loop-i.i in
    let f = get_or fs i 0 in
    let low : f < length c.loop-i.counts.items = omega (arith, field_low (length c.args.counts.now.items) fs i c.loop-i-test.true c.requires.fields, c.loop-i.invariant.2) in (
      λ t. absurd (false≢true t),
      λ h. sym c.if-not-is_next.true
          ∙ c.is_next.ensures.told.1 (c.offset_at.ensures.same ∙ ap (λ xs. get_or xs i 0) h ∙ counts_at fs i c.loop-i-test.true ∙ sym (c.loop-i.invariant.1 f low)),
    )
