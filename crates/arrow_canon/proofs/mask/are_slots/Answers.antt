use Rattle.std.proofs.Common.{sym}
use Rattle.arrow_canon.specs.declared.run.Run.TheVariants.{Slots}
use Rattle.arrow_canon.proofs.Masks.{all_step, all_false}
use Rattle.arrow_canon.proofs.mask.are_slots.Goals as goal

pub returns-then-not-is_of_slots : goal.returns-then-not-is_of_slots
returns-then-not-is_of_slots c = sym (all_false c.args.runs.now c.loop-run.run-index (Slots 0 0) c.loop-run-test.true (sym c.if-not-is_of_slots.ensures))

pub loop-run-preserved : goal.loop-run-preserved
loop-run-preserved c = all_step c.args.runs.now c.loop-run.run-index (Slots 0 0) c.loop-run-test.true c.loop-run.invariant (sym c.if-not-is_of_slots.ensures)
