use Rattle.std.proofs.Common.{◌++◌, ap, sym, ◌∙◌}
use Rattle.arrow_flat.specs.Primitives.{slots}
use Rattle.arrow_canon.specs.Picks.{picks}
use Rattle.arrow_canon.specs.Runs.{places_of}
use Rattle.arrow_canon.specs.Steps.{values_or}
use Rattle.arrow_canon.proofs.Places.{picks_fill}
use Rattle.arrow_canon.proofs.primitive.push_run.Goals as goal

pub returns-in_ok-push_zeros-in-Fill : goal.returns-in_ok-push_zeros-in-Fill
returns-in_ok-push_zeros-in-Fill g c =
    let d = g.T.NativeType.zero in
    let vs = values_or d (slots c.args.array.now) in
    c.in_ok-push_zeros-in-Fill.ensures
    ∙ ap (λ ys. c.args.values.now.items ++ ys) (picks_fill d vs c.in-Fill.count ∙ ap (λ r. picks d vs (places_of r)) (sym c.in-Fill.is))
