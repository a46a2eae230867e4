use Rattle.std.proofs.Common.{ap, ◌∙◌, ◌++◌, map, flat_map, get_or}
use Rattle.arrow_types.specs.Select.{nat_of}
use Rattle.arrow_canon.specs.Runs.{places_of}
use Rattle.arrow_canon.specs.declared.run.Run.TheVariants.{Slots}
use Rattle.arrow_canon.proofs.Places.{joined_step, within_at}
use Rattle.arrow_items.specs.Items.{item_places}
use Rattle.arrow_items.proofs.list.item_runs.Goals as goal

pub push_items-requires-clause-within : goal.push_items-requires-clause-within
push_items-requires-clause-within g c = within_at _ c.args.runs.now c.loop-run.run-index (Slots 0 0) c.loop-run-test.true c.requires.within

pub loop-run-preserved : goal.loop-run-preserved
loop-run-preserved g c =
    let os = map nat_of (map g.O.Offset.number c.args.offsets.now) in
    let r = get_or c.args.runs.now c.loop-run.run-index (Slots 0 0) in (
      c.in_ok-push_items.ensures.places ∙ ap (λ ps. ps ++ flat_map (item_places os) (places_of r)) c.loop-run.invariant.0
          ∙ joined_step (item_places os) c.args.runs.now c.loop-run.run-index (Slots 0 0) c.loop-run-test.true,
      λ top h. c.in_ok-push_items.ensures.inside top h (c.loop-run.invariant.1 top h),
    )
