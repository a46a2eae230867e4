use Rattle.arrow_layout.proofs.ByForm.{type-canon}
use Rattle.arrow_layout.proofs.CanonForms.{canon_well_formed}
use Rattle.arrow_layout.proofs.CanonLengths.{length-canon}
use Rattle.arrow_layout.proofs.laws.canon_is_well_formed.Goals as goal

pub returns-clause-well_formed : goal.returns-clause-well_formed
returns-clause-well_formed c = canon_well_formed

pub returns-clause-of_type : goal.returns-clause-of_type
returns-clause-of_type c = type-canon

pub returns-clause-count : goal.returns-clause-count
returns-clause-count c = length-canon
