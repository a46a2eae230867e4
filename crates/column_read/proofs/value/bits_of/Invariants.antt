use Rattle.std.proofs.Common.{◌≡◌, take, Some}
use Rattle.type_json.specs.Values.{traverse}
use Rattle.column_grammar.specs.Values.{bit_of_digit}
use Rattle.column_read.proofs.value.bits_of.Given as goal

abbrev pub invariant-loop-byte : goal.invariant-loop-byte
invariant-loop-byte l = traverse bit_of_digit (take l.byte-index l.text) ≡ Some l.bits
