use Rattle.std.proofs.Common.{map, flat_map, nat_eq, cond, replicate, [], None, subst, sym}
use Rattle.arrow_types.specs.Select.{nat_of}
use Rattle.arrow_canon.specs.Runs.{places_of}
use Rattle.arrow_items.specs.Dealt.{AreDealt, runs_of}
use Rattle.arrow_items.specs.Unions.{dense_places}
use Rattle.arrow_items.proofs.Deals.{dealt_same, dense_fill}
use Rattle.arrow_items.proofs.dense.deal_run.Goals as goal

pub returns-in_ok-deal_slots-in-Slots-clause-dealt : goal.returns-in_ok-deal_slots-in-Slots-clause-dealt
returns-in_ok-deal_slots-in-Slots-clause-dealt c =
    let f = dense_places c.args.fields.now (map nat_of c.args.offsets.now) c.args.first in
    subst (λ r. AreDealt (λ j. flat_map (f j) (places_of r)) (runs_of c.args.lists.now.items) (runs_of c.deal_slots.new.lists.items)) (sym c.in-Slots.is)
    (c.in_ok-deal_slots-in-Slots.ensures.dealt c.args.first)

pub returns-in_ok-push_to-in-Fill-clause-dealt : goal.returns-in_ok-push_to-in-Fill-clause-dealt
returns-in_ok-push_to-in-Fill-clause-dealt c =
    let fields = c.args.fields.now in
    let os = map nat_of c.args.offsets.now in
    let n = c.in-Fill.count in
    let before = runs_of c.args.lists.now.items in
    let after = runs_of c.push_to.new.lists.items in
    let f = dense_places fields os c.args.first in
    subst (λ r. AreDealt (λ j. flat_map (f j) (places_of r)) before after) (sym c.in-Fill.is)
    (dealt_same (λ j. cond (nat_eq c.args.first j) (replicate n None) []) (λ j. flat_map (f j) (replicate n None)) before after c.in_ok-push_to-in-Fill.ensures.dealt
    (λ j. dense_fill fields os c.args.first j n))

pub returns-in_ok-push_to-in-Fill-clause-inside : goal.returns-in_ok-push_to-in-Fill-clause-inside
returns-in_ok-push_to-in-Fill-clause-inside c = λ lengths named w. c.in_ok-push_to-in-Fill.ensures.inside lengths tt w
