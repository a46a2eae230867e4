use Rattle.std.proofs.Common.{◌≤◌, add-one, arith, sym, subst}
use Rattle.arrow_layout.specs.Layouts.{length_of}
use Rattle.arrow_meaning.proofs.Children.{least_at}
use Rattle.arrow_choice.proofs.Unions.{long_step}
use Rattle.arrow_choice.proofs.union_parts.are_long.Goals as goal

pub returns-then-len-slots : goal.returns-then-len-slots
returns-then-len-slots c =
    let at = subst (λ l. c.args.slots ≤ length_of l) (sym c.array-item.is) in (
      λ e. absurd cc,
      λ h. absurd (let long = at (least_at c.args.slots c.args.arrays.now c.loop-array.array-index c.array-item.result c.loop-array-test.true h) in omega (arith, long, c.len.ensures, c.if-len-slots.true)),
    )

pub loop-array-preserved : goal.loop-array-preserved
loop-array-preserved c =
    rw (add-one c.loop-array.array-index)
    (long_step (λ n. c.args.slots ≤ n) c.args.arrays.now c.loop-array.array-index c.array-item.result c.loop-array-test.true c.loop-array.invariant c.array-item.is
    (omega (arith, c.len.ensures, c.if-len-slots.false)))
