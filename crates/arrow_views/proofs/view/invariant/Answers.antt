use Rattle.std.proofs.Common.{arith}
use Rattle.arrow_views.specs.ViewBytes.{bytes_from}
use Rattle.arrow_views.proofs.view.invariant.Goals as goal

pub returns : goal.returns
returns c = bytes_from c.args.bytes.now (λ i l. omega (arith, c.type_inv.bytes i))
