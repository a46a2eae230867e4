use Rattle.std.proofs.Common.{◌++◌, get_or, ap, sym, ◌∙◌}
use Rattle.arrow_canon.specs.Runs.{places_of}
use Rattle.arrow_canon.specs.declared.run.Run.TheVariants.{Slots}
use Rattle.arrow_canon.proofs.Places.{places_step}
use Rattle.arrow_canon.proofs.run.places_of_runs.Goals as goal

pub loop-run-preserved : goal.loop-run-preserved
loop-run-preserved c =
    let r = get_or c.args.runs.now c.loop-run.run-index (Slots 0 0) in
    c.in_ok-push_run.ensures ∙ ap (λ ps. ps ++ places_of r) c.loop-run.invariant ∙ sym (places_step c.args.runs.now c.loop-run.run-index (Slots 0 0) c.loop-run-test.true)
