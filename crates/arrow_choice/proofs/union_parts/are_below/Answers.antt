use Rattle.std.proofs.Common.{arith, refl}
use Rattle.std.specs.Prelude.{pos}
use Rattle.arrow_types.specs.Carried.{IsBelow}
use Rattle.arrow_views.proofs.Checks.{views_from}
use Rattle.arrow_choice.proofs.union_parts.are_below.Goals as goal

pub returns : goal.returns
returns c =
    (λ e. views_from (IsBelow c.args.limit) (pos 0) c.args.numbers.now (λ k l. c.loop-number.invariant k (let past = c.loop-number-test.false in omega (arith, l))), λ h. refl)
