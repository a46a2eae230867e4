use Rattle.arrow_layout.proofs.Spelled.{spelled_one, no_prefix}
use Rattle.arrow_layout.proofs.laws.spelling_is_unique.Goals as goal

pub returns-clause-one : goal.returns-clause-one
returns-clause-one c = spelled_one

pub returns-clause-no_prefix : goal.returns-clause-no_prefix
returns-clause-no_prefix c = no_prefix
