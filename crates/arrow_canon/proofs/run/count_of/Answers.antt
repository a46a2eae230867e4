use Rattle.std.proofs.Common.{length, ap, sym, ◌∙◌}
use Rattle.arrow_canon.specs.Runs.{places_of}
use Rattle.arrow_canon.proofs.Places.{length-span}
use Rattle.arrow_canon.proofs.run.count_of.Goals as goal

pub returns-in-Slots : goal.returns-in-Slots
returns-in-Slots c = sym (ap (λ r. length (places_of r)) c.in-Slots.is ∙ length-span c.in-Slots.start c.in-Slots.length)
