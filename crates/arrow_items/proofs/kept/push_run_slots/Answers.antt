use Rattle.std.proofs.Common.{ap, ◌∙◌, ◌++◌, ◌∷◌, [], Some, arith}
use Rattle.arrow_canon.specs.Runs.{places}
use Rattle.arrow_canon.proofs.Places.{mapped_span_more}
use Rattle.arrow_items.specs.Items.{kept_place}
use Rattle.arrow_items.proofs.kept.push_run_slots.Goals as goal

pub loop-i-preserved : goal.loop-i-preserved
loop-i-preserved c =
    let m = Some c.args.mask.now in (
      c.in_ok-push_slot.ensures.places ∙ ap (λ ps. ps ++ kept_place m (Some c.loop-i.i) ∷ []) c.loop-i.invariant.0
          ∙ mapped_span_more (kept_place m) (places c.args.kept.now.items) c.args.start c.loop-i.i (omega arith),
      λ n w h. c.in_ok-push_slot.ensures.inside n (c.loop-i.invariant.1 n w h) (omega (arith, h)),
    )
