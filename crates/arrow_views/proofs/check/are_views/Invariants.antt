use Rattle.std.proofs.Common.{◌<◌, ℕ, get_or, map}
use Rattle.arrow_flat.specs.Natives.{octets}
use Rattle.arrow_flat.specs.Views.{IsView, zero_view}
use Rattle.arrow_views.proofs.check.are_views.Given as goal

abbrev pub invariant-loop-view : goal.invariant-loop-view
invariant-loop-view l = (k : ℕ) → k < l.view-index → IsView (map octets l.buffers) (get_or l.views k zero_view)
