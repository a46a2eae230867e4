use Rattle.arrow_flat.specs.Primitives.{masked_values}
use Rattle.arrow_canon.specs.declared.run.Run.TheVariants.{Slots}
use Rattle.arrow_canon.proofs.JoinedRuns.{bytes_run}
use Rattle.arrow_canon.proofs.joined.joined_bytes.Goals as goal

pub loop-run-preserved : goal.loop-run-preserved
loop-run-preserved g c =
    let a = c.args.array in
    bytes_run (masked_values (g.A.ArrayAccessor.mask a) (g.A.ArrayAccessor.values a)) c.args.zeros c.args.runs.now c.loop-run.run-index (Slots 0 0) c.loop-run.bytes.items c.push_run.new.bytes.items
    c.loop-run-test.true c.loop-run.invariant c.in_ok-push_run.ensures
