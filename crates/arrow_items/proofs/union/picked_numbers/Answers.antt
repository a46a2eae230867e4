use Rattle.std.proofs.Common.{◌++◌, length, get_or, ap, ◌∙◌}
use Rattle.arrow_canon.specs.Picks.{pick, picks}
use Rattle.arrow_canon.specs.Runs.{places_of}
use Rattle.arrow_canon.specs.declared.run.Run.TheVariants.{Slots}
use Rattle.arrow_canon.proofs.Places.{mapped_step, within_at}
use Rattle.arrow_items.proofs.union.picked_numbers.Goals as goal

pub push_numbers-requires : goal.push_numbers-requires
push_numbers-requires c = within_at (length c.args.types.now) c.args.runs.now c.loop-run.run-index (Slots 0 0) c.loop-run-test.true c.requires

pub loop-run-preserved : goal.loop-run-preserved
loop-run-preserved c =
    let f = pick c.args.filling.now c.args.types.now in
    let r = get_or c.args.runs.now c.loop-run.run-index (Slots 0 0) in
    c.in_ok-push_numbers.ensures ∙ ap (λ xs. xs ++ picks c.args.filling.now c.args.types.now (places_of r)) c.loop-run.invariant
    ∙ mapped_step f c.args.runs.now c.loop-run.run-index (Slots 0 0) c.loop-run-test.true
