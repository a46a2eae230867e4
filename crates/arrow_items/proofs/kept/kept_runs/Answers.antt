use Rattle.std.proofs.Common.{ap, ◌∙◌, ◌++◌, Some, get_or}
use Rattle.arrow_canon.specs.Runs.{places_of}
use Rattle.arrow_canon.specs.declared.run.Run.TheVariants.{Slots}
use Rattle.arrow_canon.proofs.Places.{mapped_step, within_at}
use Rattle.arrow_items.specs.Items.{kept_place, kept_places}
use Rattle.arrow_items.proofs.kept.kept_runs.Goals as goal

pub push_run-requires : goal.push_run-requires
push_run-requires c = within_at _ c.args.runs.now c.loop-run.run-index (Slots 0 0) c.loop-run-test.true c.requires

pub loop-run-preserved : goal.loop-run-preserved
loop-run-preserved c =
    let m = Some c.args.mask.now in (
      c.in_ok-push_run.ensures.places ∙ ap (λ ps. ps ++ kept_places m (places_of (get_or c.args.runs.now c.loop-run.run-index (Slots 0 0)))) c.loop-run.invariant.0
          ∙ mapped_step (kept_place m) c.args.runs.now c.loop-run.run-index (Slots 0 0) c.loop-run-test.true,
      λ n w. c.in_ok-push_run.ensures.inside n (c.loop-run.invariant.1 n w) (within_at n c.args.runs.now c.loop-run.run-index (Slots 0 0) c.loop-run-test.true w),
    )
