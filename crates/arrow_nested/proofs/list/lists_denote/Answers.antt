use Rattle.arrow_nested.proofs.Lists.{slots_denote, values_count, values_denote, values_types}
use Rattle.arrow_nested.proofs.list.lists_denote.Goals as goal

pub returns-clause-slots : goal.returns-clause-slots
returns-clause-slots c = slots_denote

pub returns-clause-values : goal.returns-clause-values
returns-clause-values c = values_denote

pub returns-clause-types : goal.returns-clause-types
returns-clause-types c = values_types

pub returns-clause-slot_count : goal.returns-clause-slot_count
returns-clause-slot_count c = values_count
