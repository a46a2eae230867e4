use Rattle.std.proofs.Common.{arith}
use Rattle.arrow_views.specs.ViewBytes.{bytes_back}
use Rattle.arrow_views.proofs.view.ViewPartialEq.eq.Goals as goal

pub returns : goal.returns
returns c = grind (arith, bytes_back)
