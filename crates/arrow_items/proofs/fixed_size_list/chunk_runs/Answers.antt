use Rattle.std.proofs.Common.{ap, ◌∙◌, ◌++◌, flat_map, get_or, arith}
use Rattle.std.proofs.lemmas.Result.{err_from_is_err_and}
use Rattle.arrow_canon.specs.Runs.{places_of}
use Rattle.arrow_canon.specs.declared.run.Run.TheVariants.{Slots}
use Rattle.arrow_canon.proofs.Places.{joined_step}
use Rattle.arrow_items.specs.Items.{chunk_places}
use Rattle.arrow_items.proofs.Spans.{joined_part}
use Rattle.arrow_items.proofs.fixed_size_list.chunk_runs.Goals as goal

pub returns-in_err-push_chunks-clause-overflow : goal.returns-in_err-push_chunks-clause-overflow
returns-in_err-push_chunks-clause-overflow c = λ e.
    let p = err_from_is_err_and c.from_residual.result c.from_residual.ensures.1 in
    let part = joined_part (chunk_places c.args.size) c.args.runs.now c.loop-run.run-index (Slots 0 0) c.loop-run-test.true in
    let many = c.in_err-push_chunks.ensures.overflow (cc (p.1, p.2, e)) in
    omega (arith, part, many)

pub loop-run-preserved : goal.loop-run-preserved
loop-run-preserved c =
    let r = get_or c.args.runs.now c.loop-run.run-index (Slots 0 0) in (
      c.in_ok-push_chunks.ensures.places ∙ ap (λ ps. ps ++ flat_map (chunk_places c.args.size) (places_of r)) c.loop-run.invariant.0
          ∙ joined_step (chunk_places c.args.size) c.args.runs.now c.loop-run.run-index (Slots 0 0) c.loop-run-test.true,
      c.in_ok-push_chunks.ensures.inside c.loop-run.invariant.1,
    )
