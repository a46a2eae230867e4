use Rattle.std.specs.Prelude.{map, take}
use Rattle.arrow_flat.specs.Natives.{octets}
use Rattle.column_grammar.specs.Values.{bytes_value}
use Rattle.column_json.proofs.Tokens.{Begun}
use Rattle.column_json.proofs.text.put_buffers.Given as goal

abbrev pub invariant-loop-buffer : goal.invariant-loop-buffer
invariant-loop-buffer l = Begun l.initial.out l.out (map (λ b. bytes_value (octets b)) (take l.buffer-index l.buffers))
