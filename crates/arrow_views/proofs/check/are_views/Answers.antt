use Rattle.std.proofs.Common.{map, refl, arith}
use Rattle.arrow_flat.specs.Natives.{octets}
use Rattle.arrow_flat.specs.Views.{IsView, zero_view}
use Rattle.arrow_views.proofs.Checks.{views_from}
use Rattle.arrow_views.proofs.check.are_views.Goals as goal

pub returns : goal.returns
returns c =
    (λ e. views_from (IsView (map octets c.args.buffers.now)) zero_view c.args.views.now (λ k l. c.loop-view.invariant k (let past = c.loop-view-test.false in omega (arith, l))), λ h. refl)
