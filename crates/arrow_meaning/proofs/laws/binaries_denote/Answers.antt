use Rattle.std.proofs.Common.{map, ap, sym, ◌∙◌, ◌%◌}
use Rattle.arrow_flat.proofs.Lists.{map-map}
use Rattle.arrow_flat.specs.Natives.{octets}
use Rattle.arrow_flat.specs.Pieces.{pieces}
use Rattle.arrow_flat.specs.Slots.{bytes}
use Rattle.arrow_bytes.specs.Binaries.{values_of}
use Rattle.arrow_buffers.specs.Offsets.{to_nat}
use Rattle.arrow_layout.specs.Denote.{masked}
use Rattle.arrow_meaning.specs.FlatSlots.{binary_slot}
use Rattle.arrow_meaning.proofs.FlatLayouts.{same_naturals}
use Rattle.arrow_meaning.proofs.FlatSlots.{denotes}
use Rattle.arrow_meaning.proofs.Octets.{pieces_map}
use Rattle.arrow_meaning.proofs.laws.binaries_denote.Goals as goal

pub returns-clause-values : goal.returns-clause-values
returns-clause-values g c = λ a.
    let number = g.O.Offset.number in
    ap (λ ns. map bytes (pieces ns (octets a.values))) (sym (same_naturals (map number a.offsets)))
    ∙ (ap (map bytes) (pieces_map (λ b. b % 256) (map to_nat (map number a.offsets)) a.values) ∙ map-map bytes octets (values_of number a))

pub returns-clause-slots : goal.returns-clause-slots
returns-clause-slots g c = λ a h.
    ap (masked a.mask) (returns-clause-values g c a) ∙ denotes binary_slot a.mask (values_of g.O.Offset.number a) h
