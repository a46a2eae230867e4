use Rattle.std.proofs.Common.{map, ap, sym, ◌∙◌, ◌%◌}
use Rattle.arrow_buffers.specs.Offsets.{to_nat}
use Rattle.arrow_flat.specs.Natives.{octets}
use Rattle.arrow_flat.specs.Pieces.{pieces}
use Rattle.arrow_flat.specs.Slots.{bytes}
use Rattle.arrow_meaning.proofs.FlatLayouts.{same_naturals}
use Rattle.arrow_meaning.proofs.Octets.{pieces_map}
use Rattle.arrow_choice.proofs.dictionary_value.Utf8ArrayDictValue.downcast_values.Goals as goal

pub returns-clause-texts : goal.returns-clause-texts
returns-clause-texts g c =
    let number = g.O.Offset.number in
    let a = c.in_ok-texts.texts.now in
    ap (λ ns. map bytes (pieces ns (octets a.values))) (sym (same_naturals (map number a.offsets)))
    ∙ ap (map bytes) (pieces_map (λ b. b % 256) (map to_nat (map number a.offsets)) a.values)
