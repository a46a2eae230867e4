use Rattle.std.proofs.Common.{◌≡◌, ◌++◌, take}
use Rattle.arrow_flat.specs.Natives.{octets}
use Rattle.arrow_scalar.proofs.spelling_out.VecU8SpellingOut.push_bytes.Given as goal

abbrev pub invariant-loop-byte : goal.invariant-loop-byte
invariant-loop-byte l = l.self.items ≡ l.initial.self.items ++ octets (take l.byte-index l.bytes)
