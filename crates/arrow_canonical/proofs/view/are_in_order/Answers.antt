use Rattle.std.proofs.Common.{arith, refl}
use Rattle.arrow_canonical.proofs.view.are_in_order.Goals as goal

pub loop-i-init : goal.loop-i-init
loop-i-init c = ((λ h. h, λ h. h), λ e. refl, omega arith, omega arith)
