use Rattle.jobs.proofs.Jobs.{one_verdict}
use Rattle.jobs.proofs.laws.one_verdict.Goals as goal

pub returns : goal.returns
returns c = one_verdict
