use Rattle.std.proofs.Common.{◌≡◌, arith, get_or}
use Rattle.std.proofs.lemmas.Bool.{false≢true}
use Rattle.arrow_canonical.proofs.Sized.{zero_at}
use Rattle.arrow_canonical.proofs.fixed_size_binary.are_zero.Goals as goal

pub returns-then-bytes-i-ne0 : goal.returns-then-bytes-i-ne0
returns-then-bytes-i-ne0 c = (
  λ t. absurd (false≢true t),
  λ h. let zero : get_or c.args.bytes.now c.loop-i.i 0 ≡ 0 = omega (arith, zero_at c.args.bytes.now c.loop-i.i h c.loop-i-test.true, c.type_inv.bytes c.loop-i.i, c.loop-i-test.true) in
      absurd (c.if-bytes-i-ne0.true zero),
)
