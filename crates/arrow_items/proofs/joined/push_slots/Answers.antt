use Rattle.std.proofs.Common.{subst, sym}
use Rattle.arrow_canon.specs.Runs.{AreWithin}
use Rattle.arrow_items.proofs.Spans.{within_more, within_front, within_last}
use Rattle.arrow_items.proofs.joined.push_slots.Goals as goal

pub returns-in-Some-joined_slots-clause-inside : goal.returns-in-Some-joined_slots-clause-inside
returns-in-Some-joined_slots-clause-inside c = λ n w h.
    let all = subst (AreWithin n) c.in-Some.ensures.items w in
    subst (AreWithin n) (sym c.in_ok-push.ensures.items)
    (within_more n c.pop.new.self.items c.in-Some-joined_slots.run' (within_front n c.pop.new.self.items c.in-Some.last all)
    (c.in-Some-joined_slots.ensures.inside n (within_last n c.pop.new.self.items c.in-Some.last all) h))
