use Rattle.arrow_flat.specs.Primitives.{masked_values}
use Rattle.arrow_canon.specs.declared.run.Run.TheVariants.{Slots}
use Rattle.arrow_canon.proofs.JoinedRuns.{lengths_run}
use Rattle.arrow_canon.proofs.joined.slot_lengths.Goals as goal

pub loop-run-preserved : goal.loop-run-preserved
loop-run-preserved g c =
    let a = c.args.array in
    lengths_run (masked_values (g.A.ArrayAccessor.mask a) (g.A.ArrayAccessor.values a)) c.args.runs.now c.loop-run.run-index (Slots 0 0) c.loop-run.lengths.items c.push_run_lengths.new.counts.items
    c.loop-run-test.true c.loop-run.invariant c.in_ok-push_run_lengths.ensures
