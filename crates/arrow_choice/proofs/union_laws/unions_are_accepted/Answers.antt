use Rattle.arrow_choice.proofs.Unions.{dense_parts, sparse_parts}
use Rattle.arrow_choice.proofs.union_laws.unions_are_accepted.Goals as goal

pub returns-clause-sparse : goal.returns-clause-sparse
returns-clause-sparse c = sparse_parts

pub returns-clause-dense : goal.returns-clause-dense
returns-clause-dense c = dense_parts
