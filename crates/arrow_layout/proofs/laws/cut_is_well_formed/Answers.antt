use Rattle.arrow_layout.proofs.CutForms.{cut_well_formed, type-cut, length-cut}
use Rattle.arrow_layout.proofs.laws.cut_is_well_formed.Goals as goal

pub returns-clause-well_formed : goal.returns-clause-well_formed
returns-clause-well_formed c = cut_well_formed

pub returns-clause-of_type : goal.returns-clause-of_type
returns-clause-of_type c = type-cut

pub returns-clause-count : goal.returns-clause-count
returns-clause-count c = length-cut
