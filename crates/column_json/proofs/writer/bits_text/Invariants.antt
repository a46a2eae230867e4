use Rattle.std.proofs.Common.{◌≡◌, map, string_bytes}
use Rattle.column_grammar.specs.Values.{bit_char}
use Rattle.column_json.proofs.writer.bits_text.Given as goal

abbrev pub invariant-loop-bit : goal.invariant-loop-bit
invariant-loop-bit l = string_bytes l.text ≡ map bit_char l.yielded
