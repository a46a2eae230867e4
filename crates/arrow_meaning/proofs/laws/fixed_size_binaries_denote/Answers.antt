use Rattle.std.proofs.Common.{map, ap, ◌∙◌, ◌%◌}
use Rattle.arrow_flat.proofs.Lists.{map-map}
use Rattle.arrow_flat.specs.Natives.{octets}
use Rattle.arrow_flat.specs.Slots.{bytes}
use Rattle.arrow_bytes.specs.FixedSizeBinaries.{values_of, slot_count}
use Rattle.arrow_layout.specs.Denote.{masked}
use Rattle.arrow_meaning.specs.FlatSlots.{binary_slot}
use Rattle.arrow_meaning.proofs.FlatSlots.{denotes}
use Rattle.arrow_meaning.proofs.Octets.{chunks_map}
use Rattle.arrow_meaning.proofs.laws.fixed_size_binaries_denote.Goals as goal

pub returns-clause-values : goal.returns-clause-values
returns-clause-values c = λ a.
    ap (map bytes) (chunks_map (λ b. b % 256) a.size (slot_count a) a.values) ∙ map-map bytes octets (values_of a)

pub returns-clause-slots : goal.returns-clause-slots
returns-clause-slots c = λ a h. ap (masked a.mask) (returns-clause-values c a) ∙ denotes binary_slot a.mask (values_of a) h
