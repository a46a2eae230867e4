use Rattle.type_json.proofs.TypeBack.{type_back}
use Rattle.jobs.proofs.laws.type_reads_back.Goals as goal

pub returns : goal.returns
returns c = type_back
