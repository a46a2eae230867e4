use Rattle.std.proofs.Common.{subst, sym}
use Rattle.arrow_canon.specs.Runs.{AreWithin}
use Rattle.arrow_items.proofs.Spans.{within_more, within_front}
use Rattle.arrow_items.proofs.joined.push_fill.Goals as goal

pub returns-in-Some-joined_fill-clause-inside : goal.returns-in-Some-joined_fill-clause-inside
returns-in-Some-joined_fill-clause-inside c = λ n w.
    subst (AreWithin n) (sym c.in_ok-push.ensures.items)
    (within_more n c.pop.new.self.items c.in-Some-joined_fill.run' (within_front n c.pop.new.self.items c.in-Some.last (subst (AreWithin n) c.in-Some.ensures.items w)) (c.in-Some-joined_fill.ensures.inside n))
