use Rattle.std.proofs.Common.{◌<◌, ℕ, [], get_or}
use Rattle.std.specs.Prelude.{IsUtf8}
use Rattle.arrow_flat.specs.Natives.{octets}
use Rattle.arrow_views.proofs.text.are_whole_texts.Given as goal

abbrev pub invariant-loop-buffer : goal.invariant-loop-buffer
invariant-loop-buffer l = (k : ℕ) → k < l.buffer-index → IsUtf8 (octets (get_or l.buffers k []))
