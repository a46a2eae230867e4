use Rattle.arrow_flat.specs.Slots.{bytes}
use Rattle.arrow_views.specs.ViewArrays.{values_of}
use Rattle.arrow_meaning.proofs.FlatSlots.{denotes}
use Rattle.arrow_meaning.proofs.laws.views_denote.Goals as goal

pub returns-clause-slots : goal.returns-clause-slots
returns-clause-slots c = λ a h. denotes bytes a.mask (values_of a) h
