use Rattle.std.proofs.Common.{◌++◌, ◌+◌, ◌∷◌, [], length, ap, ◌∙◌, Some, arith}
use Rattle.arrow_canon.specs.Runs.{places}
use Rattle.arrow_canon.proofs.Places.{mapped_span_more}
use Rattle.arrow_items.specs.Unions.{sparse_place}
use Rattle.arrow_items.proofs.sparse.push_slots.Goals as goal

pub loop-i-preserved : goal.loop-i-preserved
loop-i-preserved c =
    let f = sparse_place c.args.fields.now c.args.shift c.args.field in (
      c.in_ok-push_run.ensures.places
          ∙ ap (λ ps. places c.loop-i.picked.items ++ ps) c.slot_run.ensures.place
          ∙ ap (λ ps. ps ++ f (Some c.loop-i.i) ∷ []) c.loop-i.invariant.0
          ∙ mapped_span_more f (places c.args.picked.now.items) c.args.start c.loop-i.i c.loop-i.invariant.2,
      (λ h. c.in_ok-push_run.ensures.within (c.args.shift + length c.args.fields.now) c.slot_run.ensures.inside (c.loop-i.invariant.1 h)),
      omega (arith, c.loop-i.invariant.2),
    )
