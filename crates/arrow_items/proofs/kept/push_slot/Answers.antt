use Rattle.std.proofs.Common.{arith}
use Rattle.arrow_items.proofs.kept.push_slot.Goals as goal

pub returns-then-get_bit-clause-inside : goal.returns-then-get_bit-clause-inside
returns-then-get_bit-clause-inside c = λ n w h. c.in_ok-push_slots.ensures.inside n w (omega (arith, h))

pub returns-clause-inside : goal.returns-clause-inside
returns-clause-inside c = λ n w h. c.in_ok-push_fill.ensures.inside n w
