use Rattle.jobs.proofs.JobTexts.{whole_slots}
use Rattle.jobs.proofs.laws.one_column_is_taken_whole.Goals as goal

pub returns-clause-slots : goal.returns-clause-slots
returns-clause-slots c = whole_slots
