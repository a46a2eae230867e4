use Rattle.std.specs.Prelude.{map, take}
use Rattle.column_grammar.specs.Values.{integer_value}
use Rattle.column_json.proofs.Tokens.{Begun}
use Rattle.column_json.proofs.nested.put_types.Given as goal

abbrev pub invariant-loop-number : goal.invariant-loop-number
invariant-loop-number l = Begun l.initial.out l.out (map integer_value (take l.number-index l.types))
