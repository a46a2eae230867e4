use Rattle.jobs.proofs.Refused.{refused_complete}
use Rattle.jobs.proofs.runs.run_command.Goals as goal

pub returns-in-Err-clause-complete : goal.returns-in-Err-clause-complete
returns-in-Err-clause-complete g c = λ _ _.
    let read = c.in-Ok.ensures.whole in
    refused_complete c.args.command c.in-Err.refusal _ _ c.in-Ok.bytes.items c.deref.result.now read.0 read.1 c.deref.ensures.value c.in-Err.ensures.bad c.outcome_of.result c.outcome_of.ensures
