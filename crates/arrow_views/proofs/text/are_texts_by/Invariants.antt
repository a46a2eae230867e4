use Rattle.std.proofs.Common.{◌<◌, ℕ, get_or, map}
use Rattle.std.specs.Prelude.{IsUtf8}
use Rattle.arrow_flat.specs.Natives.{octets}
use Rattle.arrow_flat.specs.Views.{view_bytes, zero_view}
use Rattle.arrow_views.proofs.text.are_texts_by.Given as goal

abbrev pub invariant-loop-view : goal.invariant-loop-view
invariant-loop-view l = (k : ℕ) → k < l.view-index → IsUtf8 (view_bytes (map octets l.buffers) (get_or l.views k zero_view))
