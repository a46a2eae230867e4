use Rattle.std.proofs.Common.{ap, ◌∙◌}
use Rattle.arrow_flat.proofs.Lists.{map-map}
use Rattle.arrow_flat.specs.Slots.{num}
use Rattle.arrow_layout.specs.Denote.{masked}
use Rattle.arrow_meaning.specs.FlatSlots.{number_slot}
use Rattle.arrow_meaning.proofs.FlatSlots.{denotes}
use Rattle.arrow_meaning.proofs.laws.primitives_denote.Goals as goal

pub returns-clause-slots : goal.returns-clause-slots
returns-clause-slots g c = λ a h.
    let parts = g.T.NativeType.parts in
    ap (masked a.mask) (map-map num parts a.values) ∙ denotes (number_slot parts) a.mask a.values h

pub returns-clause-values : goal.returns-clause-values
returns-clause-values g c = λ a. map-map num g.T.NativeType.parts a.values
