use Rattle.std.proofs.Common.{◌++◌, length, map, get_or, ap, ◌∙◌}
use Rattle.arrow_canon.specs.Runs.{places_of}
use Rattle.arrow_canon.specs.declared.run.Run.TheVariants.{Slots}
use Rattle.arrow_canon.proofs.Places.{mapped_step, within_at}
use Rattle.arrow_items.specs.Unions.{sparse_place}
use Rattle.arrow_items.proofs.sparse.sparse_runs.Goals as goal

pub push_picked-requires-clause-within : goal.push_picked-requires-clause-within
push_picked-requires-clause-within c = within_at (length c.args.fields.now) c.args.runs.now c.loop-run.run-index (Slots 0 0) c.loop-run-test.true c.requires.within

pub loop-run-preserved : goal.loop-run-preserved
loop-run-preserved c =
    let f = sparse_place c.args.fields.now c.args.shift c.args.field in
    let r = get_or c.args.runs.now c.loop-run.run-index (Slots 0 0) in (
      c.in_ok-push_picked.ensures.places
          ∙ ap (λ ps. ps ++ map f (places_of r)) c.loop-run.invariant.0
          ∙ mapped_step f c.args.runs.now c.loop-run.run-index (Slots 0 0) c.loop-run-test.true,
      c.in_ok-push_picked.ensures.inside c.loop-run.invariant.1,
    )
