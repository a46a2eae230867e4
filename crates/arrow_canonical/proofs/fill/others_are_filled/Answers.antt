use Rattle.std.proofs.Common.{arith, refl}
use Rattle.arrow_canonical.proofs.Fillings.{null_filled}
use Rattle.arrow_canonical.proofs.fill.others_are_filled.Goals as goal

pub returns-then-is_null_array : goal.returns-then-is_null_array
returns-then-is_null_array c =
    (λ t. λ i w v. null_filled c.args.child.now i (c.is_null_array.ensures c.if-is_null_array.true) c.invariant.ensures (omega arith), λ h. refl)
