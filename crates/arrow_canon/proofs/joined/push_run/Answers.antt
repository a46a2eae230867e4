use Rattle.std.proofs.Common.{◌++◌, None, ap, sym, ◌∙◌}
use Rattle.arrow_flat.specs.Primitives.{masked_values}
use Rattle.arrow_canon.specs.Picks.{picks}
use Rattle.arrow_canon.specs.Runs.{places_of}
use Rattle.arrow_canon.specs.Steps.{concatenated}
use Rattle.arrow_canon.proofs.JoinedRuns.{fill_picked}
use Rattle.arrow_canon.proofs.joined.push_run.Goals as goal

pub returns-in_ok-push_fill-in-Fill : goal.returns-in_ok-push_fill-in-Fill
returns-in_ok-push_fill-in-Fill g c =
    let a = c.args.array in
    let s = masked_values (g.A.ArrayAccessor.mask a) (g.A.ArrayAccessor.values a) in
    let z = c.args.zeros in
    c.in_ok-push_fill-in-Fill.ensures
    ∙ ap (λ bs. c.args.bytes.now.items ++ bs) (ap (concatenated z) (fill_picked s c.in-Fill.count) ∙ ap (λ r. concatenated z (picks None s (places_of r))) (sym c.in-Fill.is))
