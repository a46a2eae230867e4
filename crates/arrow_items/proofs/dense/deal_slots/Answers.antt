use Rattle.std.proofs.Common.{◌≡◌, ◌-◌, [], ◌∷◌, length, map, flat_map, get_or, cond, nat_eq, Some, refl, subst, arith}
use Rattle.arrow_types.specs.Select.{nat_of}
use Rattle.arrow_canon.specs.Picks.{span}
use Rattle.arrow_items.specs.Dealt.{AreDealt, runs_of}
use Rattle.arrow_items.specs.Unions.{dense_places}
use Rattle.arrow_items.proofs.ByUnion.{named_at}
use Rattle.arrow_items.proofs.Deals.{dealt_nowhere, dealt_slot, length-runs_of}
use Rattle.arrow_items.proofs.Occurrences.{field_low}
use Rattle.arrow_items.proofs.dense.deal_slots.Goals as goal

pub loop-i-init : goal.loop-i-init
loop-i-init c =
    let none : c.args.start - c.args.start ≡ 0 = omega arith in (
      refl,
      (λ first. dealt_nowhere (dense_places c.args.fields.now (map nat_of c.args.offsets.now) first) c.args.start (c.args.start - c.args.start) (runs_of c.args.lists.now.items) none),
      (λ lengths named w. w),
      omega arith,
    )

pub push_to-requires : goal.push_to-requires
push_to-requires c =
    let low = field_low (length c.args.lists.now.items) c.args.fields.now c.loop-i.i (omega (arith, c.requires.within)) c.requires.fields in
    omega (arith, low, c.loop-i.invariant.0)

pub loop-i-preserved : goal.loop-i-preserved
loop-i-preserved c =
    let i = c.loop-i.i in
    let fields = c.args.fields.now in
    let os = map nat_of c.args.offsets.now in
    let first_runs = runs_of c.args.lists.now.items in
    let before = c.loop-i.lists.items in
    let after = c.push_to.new.lists.items in
    let o = get_or os i 0 in
    let k = get_or fields i 0 in
    let here : AreDealt (λ j. cond (nat_eq k j) (Some o ∷ []) []) (runs_of before) (runs_of after) =
    subst (λ ps. AreDealt (λ j. cond (nat_eq k j) ps []) (runs_of before) (runs_of after)) c.slot_run.ensures.place c.in_ok-push_to.ensures.dealt in (
      omega (arith, here.0, length-runs_of before, length-runs_of after, c.loop-i.invariant.0),
      (λ first. dealt_slot (dense_places fields os first) c.args.start i first_runs (runs_of before) (runs_of after) c.loop-i.invariant.3 (c.loop-i.invariant.1 first) here),
      (λ lengths named w.
          c.in_ok-push_to.ensures.inside lengths (c.slot_run.ensures.inside (get_or lengths k 0) (named_at lengths fields os i named (omega (arith, c.requires.within)))) (c.loop-i.invariant.2 lengths named w)),
      omega (arith, c.loop-i.invariant.3),
    )

pub returns-clause-dealt : goal.returns-clause-dealt
returns-clause-dealt c = λ first.
    let f = dense_places c.args.fields.now (map nat_of c.args.offsets.now) first in
    let all : c.loop-i.i - c.args.start ≡ c.args.length = omega (arith, c.loop-i-test.false) in
    subst (λ n. AreDealt (λ j. flat_map (f j) (span c.args.start n)) (runs_of c.args.lists.now.items) (runs_of c.loop-i.lists.items)) all (c.loop-i.invariant.1 first)
