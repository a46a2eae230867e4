use Rattle.std.proofs.Common.{◌≡◌, map, take}
use Rattle.serde_json.specs.View.{view}
use Rattle.arrow_flat.specs.Natives.{octets}
use Rattle.column_grammar.specs.Values.{bytes_value}
use Rattle.column_json.proofs.view.buffers_json.Given as goal

abbrev pub invariant-loop-buffer : goal.invariant-loop-buffer
invariant-loop-buffer l = map view l.list.items ≡ map bytes_value (map octets (take l.buffer-index l.buffers))
