use Rattle.std.proofs.Common.{◌∙◌}
use Rattle.arrow_layout.specs.Denote.{denote}
use Rattle.arrow_layout.specs.Layouts.{type_of}
use Rattle.arrow_choice.proofs.DictionaryNodes.{well_formed_carried}
use Rattle.arrow_gather.proofs.laws.normalized_denotes.Goals as goal

pub returns : goal.returns
returns c = record {
  slots = λ l w. c.canon_denotes.ensures (type_of l) (denote l) (well_formed_carried l w) (c.denotes_slots.ensures.slots l w);
  of_type = λ l. c.canon_is_well_formed.ensures.of_type (type_of l) (denote l);
  count = λ l w. c.canon_is_well_formed.ensures.count (type_of l) (denote l) ∙ c.denotes_slots.ensures.count l w;
  well_formed = λ l w f. c.canon_is_well_formed.ensures.well_formed (type_of l) (denote l) (well_formed_carried l w) (c.denotes_slots.ensures.slots l w) f (c.denotes_slots.ensures.small l w);
}
