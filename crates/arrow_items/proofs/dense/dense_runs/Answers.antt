use Rattle.std.proofs.Common.{ℕ, ◌<◌, List, [], length, map, flat_map, get_or, replicate, take_all, sym, subst, ap, ◌∙◌, arith}
use Rattle.std.specs.Prelude.{ℤ}
use Rattle.std.specs.List.{AllByRecursion}
use Rattle.std.proofs.lemmas.List.{length-replicate}
use Rattle.arrow_types.specs.Select.{nat_of}
use Rattle.arrow_layout.specs.WellFormed.{AllNamed}
use Rattle.arrow_canon.specs.Runs.{places, places_of}
use Rattle.arrow_canon.specs.declared.run.Run.TheVariants.{Slots}
use Rattle.arrow_canon.proofs.Places.{within_at}
use Rattle.arrow_items.specs.Dealt.{AllWithin, AreDealt, runs_of}
use Rattle.arrow_items.specs.Unions.{dense_places}
use Rattle.arrow_items.proofs.Deals.{dealt_all, dealt_first, dealt_step, length-runs_of, none_within}
use Rattle.arrow_items.proofs.dense.dense_runs.Goals as goal

pub loop-run-init : goal.loop-run-init
loop-run-init c =
    let e = c.in_ok-lists.ensures in (
      sym (length-runs_of c.in_ok-lists.lists.items) ∙ ap length e ∙ length-replicate c.args.count [],
      dealt_first (dense_places c.args.fields.now (map nat_of c.args.offsets.now) c.args.first) c.args.runs.now c.args.count (runs_of c.in_ok-lists.lists.items) e,
      (λ lengths named. subst (AllWithin lengths) (sym e) (none_within lengths c.args.count)),
    )

pub deal_run-requires-clause-fields : goal.deal_run-requires-clause-fields
deal_run-requires-clause-fields c = subst (λ n. AllByRecursion (λ j. j < n) c.args.fields.now) (sym c.loop-run.invariant.0) c.requires.fields

pub deal_run-requires-clause-within : goal.deal_run-requires-clause-within
deal_run-requires-clause-within c = within_at (length c.args.fields.now) c.args.runs.now c.loop-run.run-index (Slots 0 0) c.loop-run-test.true c.requires.within

pub loop-run-preserved : goal.loop-run-preserved
loop-run-preserved c =
    let f : List ℤ → ℕ → _ = λ os. dense_places c.args.fields.now (map nat_of os) c.args.first in
    let i = c.loop-run.run-index in
    let rs = c.args.runs.now in
    let r = get_or rs i (Slots 0 0) in
    let before = c.loop-run.lists.items in
    let after = c.deal_run.new.lists.items in
    let here : AreDealt (λ j. flat_map (f c.args.offsets.now j) (places_of r)) (runs_of before) (runs_of after) =
    subst (λ os. AreDealt (λ j. flat_map (f os j) (places_of r)) (runs_of before) (runs_of after)) c.as_slice.ensures c.in_ok-deal_run.ensures.dealt in (
      omega (arith, here.0, length-runs_of before, length-runs_of after, c.loop-run.invariant.0),
      dealt_step (f c.args.offsets.now) rs i (Slots 0 0) (replicate c.args.count []) (runs_of before) (runs_of after) c.loop-run-test.true c.loop-run.invariant.1 here,
      (λ lengths named.
          c.in_ok-deal_run.ensures.inside lengths (subst (λ os. AllNamed lengths c.args.fields.now (map nat_of os)) (sym c.as_slice.ensures) named) (c.loop-run.invariant.2 lengths named)),
    )

pub returns-clause-places : goal.returns-clause-places
returns-clause-places c =
    let f = dense_places c.args.fields.now (map nat_of c.args.offsets.now) c.args.first in
    let vs = c.loop-run.lists.items in
    let whole = take_all c.loop-run.run-index c.args.runs.now (omega (arith, c.loop-run-test.false)) in
    dealt_all c.args.count vs (λ j. flat_map (f j) (places c.args.runs.now)) c.loop-run.invariant.0
    (subst (λ rs. AreDealt (λ j. flat_map (f j) (places rs)) (replicate c.args.count []) (runs_of vs)) whole c.loop-run.invariant.1)
