use Rattle.std.proofs.Common.{sym, ap, ◌∙◌, ◌++◌, ◌≡◌, pos, map, sum, get_or, take, arith}
use Rattle.std.proofs.lemmas.Result.{err_from_is_err_and}
use Rattle.arrow_types.specs.Select.{nat_of}
use Rattle.arrow_buffers.specs.Offsets.{end_of}
use Rattle.arrow_layout.specs.Canon.{offsets, sums_from}
use Rattle.arrow_canon.specs.Runs.{places, places_of}
use Rattle.arrow_canon.specs.declared.run.Run.TheVariants.{Slots}
use Rattle.arrow_canon.proofs.Places.{within_at}
use Rattle.arrow_items.specs.Items.{item_count}
use Rattle.arrow_items.proofs.ListItems.{counts_room, counts_step, offsets-append, end_of-offsets, sum-append}
use Rattle.arrow_items.proofs.list.offsets_of_runs.Goals as goal

pub push_ends-requires-clause-within : goal.push_ends-requires-clause-within
push_ends-requires-clause-within g c = within_at _ c.args.runs.now c.loop-run.run-index (Slots 0 0) c.loop-run-test.true c.requires.within

pub push_ends-requires-clause-room : goal.push_ends-requires-clause-room
push_ends-requires-clause-room g c =
    let f = item_count (map nat_of (map g.O.Offset.number c.args.offsets.now)) in
    let front = map f (places (take c.loop-run.run-index c.args.runs.now)) in
    omega (arith, ap end_of c.loop-run.invariant.0, end_of-offsets front, c.loop-run.invariant.1)

pub returns-in_err-push_ends-clause-overflow : goal.returns-in_err-push_ends-clause-overflow
returns-in_err-push_ends-clause-overflow g c = λ e.
    let f = item_count (map nat_of (map g.O.Offset.number c.args.offsets.now)) in
    let front = map f (places (take c.loop-run.run-index c.args.runs.now)) in
    let p = err_from_is_err_and c.from_residual-in_err-push_ends.result c.from_residual-in_err-push_ends.ensures.1 in
    let many = c.in_err-push_ends.ensures.overflow (cc (p.1, p.2, e)) in
    omega (arith, many, counts_room f c.args.runs.now c.loop-run.run-index (Slots 0 0) c.loop-run-test.true, ap end_of c.loop-run.invariant.0, end_of-offsets front)

pub loop-run-preserved : goal.loop-run-preserved
loop-run-preserved g c =
    let number = g.O.Offset.number in
    let f = item_count (map nat_of (map number c.args.offsets.now)) in
    let r = get_or c.args.runs.now c.loop-run.run-index (Slots 0 0) in
    let front = map f (places (take c.loop-run.run-index c.args.runs.now)) in
    let more = map f (places_of r) in
    let step = counts_step f c.args.runs.now c.loop-run.run-index (Slots 0 0) c.loop-run-test.true in
    let end : end_of (map number c.loop-run.ends) ≡ sum front = ap end_of c.loop-run.invariant.0 ∙ end_of-offsets front in (
      c.in_ok-push_ends.ensures.ok ∙ ap (λ a. map number c.loop-run.ends ++ map pos (sums_from a more)) end
          ∙ ap (λ xs. xs ++ map pos (sums_from (sum front) more)) c.loop-run.invariant.0 ∙ sym (ap offsets step ∙ offsets-append front more),
      omega (arith, c.in_ok-push_ends.ensures.fits, end, ap sum step, sum-append front more),
    )
