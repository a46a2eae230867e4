use Rattle.arrow_layout.proofs.NullForms.{none_fit, null_well_formed}
use Rattle.arrow_layout.proofs.NullLayouts.{denote-null, length-null, type-null}
use Rattle.arrow_layout.proofs.laws.null_layout_denotes.Goals as goal

pub returns-clause-slots : goal.returns-clause-slots
returns-clause-slots c = denote-null

pub returns-clause-well_formed : goal.returns-clause-well_formed
returns-clause-well_formed c = null_well_formed

pub returns-clause-of_type : goal.returns-clause-of_type
returns-clause-of_type c = type-null

pub returns-clause-count : goal.returns-clause-count
returns-clause-count c = length-null

pub returns-clause-none : goal.returns-clause-none
returns-clause-none c = none_fit
