use Rattle.std.proofs.Common.{None, map, ap, sym, ◌∙◌}
use Rattle.std.specs.List.{list_all}
use Rattle.arrow_buffers.specs.Bits.{same}
use Rattle.arrow_canon.specs.Picks.{valid_place}
use Rattle.arrow_canon.specs.Runs.{places_of}
use Rattle.arrow_canon.proofs.Masks.{all_slots, all_fill}
use Rattle.arrow_canon.proofs.mask.is_of_slots.Goals as goal

pub returns-in-Slots : goal.returns-in-Slots
returns-in-Slots c = sym (ap (λ r. list_all same (map (valid_place None) (places_of r))) c.in-Slots.is ∙ all_slots c.in-Slots.start c.in-Slots.length)

pub returns-in-Fill : goal.returns-in-Fill
returns-in-Fill c = sym (ap (λ r. list_all same (map (valid_place None) (places_of r))) c.in-Fill.is ∙ all_fill c.in-Fill.count)
