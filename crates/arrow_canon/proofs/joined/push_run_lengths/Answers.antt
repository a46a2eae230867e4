use Rattle.std.proofs.Common.{◌++◌, None, ap, sym, ◌∙◌}
use Rattle.arrow_flat.specs.Primitives.{masked_values}
use Rattle.arrow_canon.specs.Picks.{picks}
use Rattle.arrow_canon.specs.Runs.{places_of}
use Rattle.arrow_canon.specs.Steps.{lengths}
use Rattle.arrow_canon.proofs.JoinedRuns.{fill_picked, lengths_fill}
use Rattle.arrow_canon.proofs.joined.push_run_lengths.Goals as goal

pub returns-in_ok-push_no_lengths-in-Fill : goal.returns-in_ok-push_no_lengths-in-Fill
returns-in_ok-push_no_lengths-in-Fill g c =
    let a = c.args.array in
    let s = masked_values (g.A.ArrayAccessor.mask a) (g.A.ArrayAccessor.values a) in
    let old = c.args.counts.now.items in
    let fill = lengths_fill c.in-Fill.count ∙ ap lengths (fill_picked s c.in-Fill.count) ∙ ap (λ r. lengths (picks None s (places_of r))) (sym c.in-Fill.is) in
    c.in_ok-push_no_lengths-in-Fill.ensures ∙ ap (λ ns. old ++ ns) fill
