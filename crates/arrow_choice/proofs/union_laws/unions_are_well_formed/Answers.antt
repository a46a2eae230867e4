use Rattle.arrow_layout.specs.Layouts.{dense_unions, sparse_unions}
use Rattle.arrow_layout.proofs.FromParts.{well_formed-parts}
use Rattle.arrow_choice.proofs.Unions.{dense_fits, sparse_fits}
use Rattle.arrow_choice.proofs.union_laws.unions_are_well_formed.Goals as goal

pub returns-clause-sparse : goal.returns-clause-sparse
returns-clause-sparse c = λ t ts ls p w n. well_formed-parts (sparse_unions t 0 ts ls) (sparse_fits t ts ls p w n) w

pub returns-clause-dense : goal.returns-clause-dense
returns-clause-dense c = λ t ts os ls p w n. well_formed-parts (dense_unions t 0 ts os ls) (dense_fits t ts os ls p w n) w
