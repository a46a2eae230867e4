use Rattle.std.proofs.Common.{refl, arith}
use Rattle.arrow_views.proofs.Checks.{zeros_from}
use Rattle.arrow_views.proofs.check.are_zeros.Goals as goal

pub returns : goal.returns
returns c = (λ e. zeros_from c.args.bytes.now (λ k l. c.loop-byte.invariant k (let past = c.loop-byte-test.false in omega (arith, l))), λ e. refl)
