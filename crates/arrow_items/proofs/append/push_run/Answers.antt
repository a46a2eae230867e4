use Rattle.std.proofs.Common.{subst}
use Rattle.arrow_canon.specs.Runs.{IsWithin}
use Rattle.arrow_items.proofs.append.push_run.Goals as goal

pub returns-in_ok-push_slots-in-Slots-clause-within : goal.returns-in_ok-push_slots-in-Slots-clause-within
returns-in_ok-push_slots-in-Slots-clause-within c = λ n h w. c.in_ok-push_slots-in-Slots.ensures.inside n w (subst (IsWithin n) c.in-Slots.is h)

pub returns-in_ok-push_fill-in-Fill-clause-within : goal.returns-in_ok-push_fill-in-Fill-clause-within
returns-in_ok-push_fill-in-Fill-clause-within c = λ n h w. c.in_ok-push_fill-in-Fill.ensures.inside n w
