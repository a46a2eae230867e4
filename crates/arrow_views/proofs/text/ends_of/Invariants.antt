use Rattle.std.proofs.Common.{◌≡◌, ◌<◌, ℕ, [], length, get_or}
use Rattle.arrow_flat.specs.Natives.{octets}
use Rattle.arrow_views.specs.TextEnds.{AreTextEnds}
use Rattle.arrow_views.proofs.text.ends_of.Given as goal

abbrev pub invariant-loop-buffer : goal.invariant-loop-buffer
invariant-loop-buffer l =
    (length l.ends.items ≡ l.buffer-index)
    × ((k : ℕ) → k < l.buffer-index → AreTextEnds (octets (get_or l.buffers k [])) (get_or l.ends.items k []))
