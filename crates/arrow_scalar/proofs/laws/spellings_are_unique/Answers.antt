use Rattle.arrow_scalar.proofs.Short.{none_longer, slots_told}
use Rattle.arrow_scalar.proofs.laws.spellings_are_unique.Goals as goal

pub returns-clause-one : goal.returns-clause-one
returns-clause-one c = slots_told

pub returns-clause-no_prefix : goal.returns-clause-no_prefix
returns-clause-no_prefix c = none_longer
