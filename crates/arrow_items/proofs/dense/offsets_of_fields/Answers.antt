use Rattle.std.proofs.lemmas.Result.{err_from_is_err_and}
use Rattle.arrow_items.proofs.dense.offsets_of_fields.Goals as goal

pub returns-in_err-offsets-clause-overflow : goal.returns-in_err-offsets-clause-overflow
returns-in_err-offsets-clause-overflow c = λ e all.
    let p = err_from_is_err_and c.from_residual.result c.from_residual.ensures.1 in
    c.in_err-offsets.ensures.overflow (cc (p.1, p.2, e)) all
