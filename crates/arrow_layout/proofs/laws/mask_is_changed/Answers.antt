use Rattle.arrow_layout.proofs.Remasked.{denote-with_mask, well_formed-with_mask, type-with_mask}
use Rattle.arrow_layout.proofs.laws.mask_is_changed.Goals as goal

pub returns-clause-slots : goal.returns-clause-slots
returns-clause-slots c = denote-with_mask

pub returns-clause-well_formed : goal.returns-clause-well_formed
returns-clause-well_formed c = well_formed-with_mask

pub returns-clause-of_type : goal.returns-clause-of_type
returns-clause-of_type c = type-with_mask
