use Rattle.arrow_choice.proofs.Unions.{dense_part, sparse_part}
use Rattle.arrow_choice.proofs.union_laws.slices_are_indexed.Goals as goal

pub returns-clause-sparse : goal.returns-clause-sparse
returns-clause-sparse c = λ t shift o n ts ls. sparse_part t shift o n ts

pub returns-clause-dense : goal.returns-clause-dense
returns-clause-dense c = λ t shift o n ts os ls. dense_part t o n ts os
