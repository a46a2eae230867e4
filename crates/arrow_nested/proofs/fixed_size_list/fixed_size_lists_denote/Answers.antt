use Rattle.arrow_nested.proofs.FixedSizeLists.{lists_denote, lists_under}
use Rattle.arrow_nested.proofs.fixed_size_list.fixed_size_lists_denote.Goals as goal

pub returns-clause-slots : goal.returns-clause-slots
returns-clause-slots c = λ t m k n l w. lists_denote t m k n l w

pub returns-clause-values : goal.returns-clause-values
returns-clause-values c = λ t m k n l w. lists_under t m k n l w
