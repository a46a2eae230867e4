use Rattle.arrow_layout.proofs.Conforms.{conforms}
use Rattle.arrow_layout.proofs.Lengths.{length-denote}
use Rattle.arrow_layout.proofs.Smalls.{small-denote}
use Rattle.arrow_layout.proofs.laws.denotes_slots.Goals as goal

pub returns-clause-slots : goal.returns-clause-slots
returns-clause-slots c = conforms

pub returns-clause-count : goal.returns-clause-count
returns-clause-count c = length-denote

pub returns-clause-small : goal.returns-clause-small
returns-clause-small c = small-denote
