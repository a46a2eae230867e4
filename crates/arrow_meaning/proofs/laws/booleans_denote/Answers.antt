use Rattle.arrow_flat.specs.Slots.{bool}
use Rattle.arrow_meaning.proofs.FlatSlots.{denotes}
use Rattle.arrow_meaning.proofs.laws.booleans_denote.Goals as goal

pub returns-clause-slots : goal.returns-clause-slots
returns-clause-slots c = λ a h. denotes bool a.mask a.values.bits h
