use Rattle.std.proofs.Common.{ap, ◌∙◌}
use Rattle.arrow_layout.proofs.Physical.{physical_by, physical-by}
use Rattle.arrow_nested.proofs.null.nulls_are_accepted.Goals as goal

pub returns : goal.returns
returns c = λ t n w. physical-by t ∙ ap (physical_by t) w.of_form
