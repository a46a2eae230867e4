use Rattle.arrow_meaning.specs.Nodes.{physical_list}
use Rattle.arrow_nested.proofs.Lists.{fit_lists, list_kinds, lists_by_type}
use Rattle.arrow_nested.proofs.list.lists_are_accepted.Goals as goal

pub returns-clause-shape : goal.returns-clause-shape
returns-clause-shape c = λ large l w s. lists_by_type l (physical_list large) w s (list_kinds large)

pub returns-clause-fits : goal.returns-clause-fits
returns-clause-fits c = λ large l w s. fit_lists (physical_list large) l (returns-clause-shape c large l w s) w s
