use Rattle.std.proofs.Common.{ap, ◌∙◌}
use Rattle.arrow_types.specs.Seen.{seen}
use Rattle.arrow_layout.specs.SlotsOf.{fill}
use Rattle.arrow_canonical.proofs.Fillings.{filling_at, filling_some}
use Rattle.arrow_canonical.proofs.fill.filling.Goals as goal

pub returns-in-Ok-clause-some : goal.returns-in-Ok-clause-some
returns-in-Ok-clause-some c = filling_some c.in-Ok.array (seen c.in_ok-try_clone.field-0) c.in-Ok.ensures.ok

pub returns-in-Ok-clause-filling : goal.returns-in-Ok-clause-filling
returns-in-Ok-clause-filling c = filling_at c.in-Ok.array (seen c.in_ok-try_clone.field-0) c.in-Ok.ensures.ok ∙ ap (λ d. fill (seen d)) c.in_ok-try_clone.ensures
