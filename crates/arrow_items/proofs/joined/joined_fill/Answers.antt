use Rattle.std.proofs.Common.{ap, sym, ◌∙◌, ◌++◌, replicate, Option, None, ℕ}
use Rattle.arrow_canon.specs.Runs.{places_of}
use Rattle.arrow_items.proofs.Spans.{replicate_join}
use Rattle.arrow_items.proofs.joined.joined_fill.Goals as goal

pub returns-in_ok-checked_add-in-Fill-clause-places : goal.returns-in_ok-checked_add-in-Fill-clause-places
returns-in_ok-checked_add-in-Fill-clause-places c =
    ap (λ k. replicate {A = Option ℕ} k None) c.in_ok-checked_add-in-Fill.ensures.1
    ∙ sym (replicate_join None c.in-Fill.before c.args.count)
    ∙ ap (λ r. places_of r ++ replicate c.args.count None) (sym c.in-Fill.is)
