use Rattle.jobs.proofs.JobTexts.{equal_jobs, same_jobs}
use Rattle.jobs.proofs.laws.texts_tell_jobs.Goals as goal

pub returns : goal.returns
returns c = λ a b j k hj hk fj fk. (equal_jobs a b j k hj hk fj fk, same_jobs j k)
