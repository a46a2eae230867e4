use Rattle.std.proofs.Common.{arith, refl, subst}
use Rattle.std.specs.Prelude.{pos}
use Rattle.std.specs.List.{AllByRecursion}
use Rattle.arrow_types.specs.Carried.{IsBelow}
use Rattle.arrow_views.proofs.Checks.{views_from}
use Rattle.arrow_choice.proofs.union_parts.are_type_numbers.Goals as goal

pub returns : goal.returns
returns c = (
  λ e. subst (λ n. AllByRecursion (IsBelow n) c.args.types.now) c.type_limit-limit.ensures
      (views_from (IsBelow c.type_limit-limit.result) (pos 0) c.args.types.now (λ k l. c.loop-number.invariant k (let past = c.loop-number-test.false in omega (arith, l)))),
  λ h. refl,
)
