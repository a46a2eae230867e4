use Rattle.std.proofs.Common.{◌*◌, ◌<◌, ◌^◌, length, sym, subst, arith}
use Rattle.arrow_types.specs.Seen.{seen}
use Rattle.arrow_meaning.specs.Nodes.{fixed_size_binary_layout}
use Rattle.arrow_canon.specs.Runs.{places}
use Rattle.arrow_canon.proofs.Counts.{runs_fit}
use Rattle.arrow_canon.proofs.FixedSizes.{few_if}
use Rattle.arrow_canon.proofs.fixed_size_binary.canonical_fixed_size_binary.Goals as goal

pub returns-in_default-clause-overflow : goal.returns-in_default-clause-overflow
returns-in_default-clause-overflow c refused fits =
    let few = runs_fit (seen c.args.dtype.now) (fixed_size_binary_layout c.args.array.now) c.args.runs.now fits in
    omega (arith, few, c.in_default.ensures)

pub returns-in_default-checked_mul-clause-overflow : goal.returns-in_default-checked_mul-clause-overflow
returns-in_default-checked_mul-clause-overflow c refused fits =
    let a = c.args.array.now in
    let rs = c.args.runs.now in
    let few = few_if a c.invariant.ensures (seen c.args.dtype.now) c.requires.of_type rs c.requires.within fits in
    let bytes : c.in-Some.count * c.size.result < 2 ^ 64 =
    subst (λ n. n * c.size.result < 2 ^ 64) (sym c.in-Some.ensures) (subst (λ k. length (places rs) * k < 2 ^ 64) (sym c.size.ensures.value) few) in
    omega (arith, bytes, c.in_default-checked_mul.ensures)
