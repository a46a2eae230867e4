use Rattle.std.proofs.Common.{rules, get_or}
use Rattle.arrow_canon.specs.Runs.{places_of}
use Rattle.arrow_items.proofs.Deals.{dealt_to, within_to}
use Rattle.arrow_items.proofs.dense.push_to.Goals as goal

pub returns-clause-dealt : goal.returns-clause-dealt
returns-clause-dealt c =
    dealt_to c.args.lists.now.items _ c.args.position c.index_mut.result.now c.push_run.new.runs (search rules) c.requires c.index_mut.ensures.value (places_of c.args.run) c.in_ok-push_run.ensures.places

pub returns-clause-inside : goal.returns-clause-inside
returns-clause-inside c = λ lengths fits.
    within_to c.args.lists.now.items _ c.args.position c.index_mut.result.now c.push_run.new.runs (search rules) c.requires c.index_mut.ensures.value lengths
    (c.in_ok-push_run.ensures.within (get_or lengths c.args.position 0) fits)
