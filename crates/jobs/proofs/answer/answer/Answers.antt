use Rattle.std.proofs.lemmas.Result.{err_from_is_err_and}
use Rattle.jobs.proofs.Answered.{refused_by, canon_ok, canon_bad, check_ok, check_bad}
use Rattle.jobs.proofs.answer.answer.Goals as goal

pub returns-in_err-array-clause-bad : goal.returns-in_err-array-clause-bad
returns-in_err-array-clause-bad c =
    let p = err_from_is_err_and c.from_residual.result c.from_residual.ensures.1 in
    refused_by c.args.command c.args.bytes.now c.in_err-array.field-0.0 c.from_residual.result (cc (p.1, p.2)) (c.in_err-array.ensures.bad c.args.command)

pub returns-in-Canon-clause-ok : goal.returns-in-Canon-clause-ok
returns-in-Canon-clause-ok c =
    let job = c.in_ok-array.ensures.ok in
    canon_ok c.args.bytes.now job.0 c.in_ok-array.array job.1 job.2 c.canonical_text.result c.args.command c.in-Canon.is c.canonical_text.ensures.ok

pub returns-in-Canon-clause-bad : goal.returns-in-Canon-clause-bad
returns-in-Canon-clause-bad c =
    let job = c.in_ok-array.ensures.ok in
    canon_bad c.args.bytes.now job.0 c.in_ok-array.array job.1 job.2 c.canonical_text.result c.args.command c.in-Canon.is c.canonical_text.ensures.causes c.canonical_text.ensures.overflow

pub returns-clause-ok : goal.returns-clause-ok
returns-clause-ok c =
    let job = c.in_ok-array.ensures.ok in
    check_ok c.args.bytes.now job.0 c.in_ok-array.array job.1 job.2 c.checked.result c.args.command c.in-Check.is c.checked.ensures.ok

pub returns-clause-bad : goal.returns-clause-bad
returns-clause-bad c =
    let job = c.in_ok-array.ensures.ok in
    check_bad c.args.bytes.now job.0 c.in_ok-array.array job.1 job.2 c.checked.result c.args.command c.in-Check.is c.checked.ensures.causes c.checked.ensures.not_canonical
