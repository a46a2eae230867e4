use Rattle.std.proofs.Common.{ap, sym, ◌∙◌, ◌++◌, ◌+◌, ◌≡◌, arith}
use Rattle.arrow_canon.specs.Picks.{span}
use Rattle.arrow_canon.specs.Runs.{places_of}
use Rattle.arrow_items.proofs.Spans.{span_join}
use Rattle.arrow_items.proofs.joined.joined_slots.Goals as goal

pub returns-in_ok-checked_add-in-Slots-2-clause-places : goal.returns-in_ok-checked_add-in-Slots-2-clause-places
returns-in_ok-checked_add-in-Slots-2-clause-places c =
    let next : c.in-Slots.first + c.in-Slots.before ≡ c.args.start = omega (arith, c.in_ok-checked_add-in-Slots.ensures.1, c.if-branch-start.false) in
    ap (span c.in-Slots.first) c.in_ok-checked_add-in-Slots-2.ensures.1
    ∙ sym (span_join c.in-Slots.first c.in-Slots.before c.args.start c.args.length next)
    ∙ ap (λ r. places_of r ++ span c.args.start c.args.length) (sym c.in-Slots.is)
