use Rattle.std.proofs.Common.{◌++◌, length, get_or, ap, ◌∙◌}
use Rattle.arrow_meaning.specs.Nodes.{primitive_layout}
use Rattle.arrow_canon.specs.Runs.{places_of}
use Rattle.arrow_canon.specs.declared.run.Run.TheVariants.{Slots}
use Rattle.arrow_canon.proofs.Places.{mapped_step, within_at}
use Rattle.arrow_gather.specs.Distincts.{value_place, value_places}
use Rattle.arrow_gather.proofs.dictionary_keys.positions_of_runs.Goals as goal

pub push_run-requires-clause-within : goal.push_run-requires-clause-within
push_run-requires-clause-within g c =
    within_at (length c.args.keys.now.values) c.args.runs.now c.loop-run.run-index (Slots 0 0) c.loop-run-test.true c.requires.within

pub loop-run-preserved : goal.loop-run-preserved
loop-run-preserved g c =
    let ks = primitive_layout g.K.NativeType.parts c.args.keys.now in
    let r = get_or c.args.runs.now c.loop-run.run-index (Slots 0 0) in
    c.in_ok-push_run.ensures ∙ ap (λ ps. ps ++ value_places ks (places_of r)) c.loop-run.invariant ∙ mapped_step (value_place ks) c.args.runs.now c.loop-run.run-index (Slots 0 0) c.loop-run-test.true
