use Rattle.arrow_nested.proofs.Structs.{well_formed_fit}
use Rattle.arrow_nested.proofs.struct_.structs_are_accepted.Goals as goal

pub returns : goal.returns
returns c = λ t m n ls w. well_formed_fit t m n ls w
