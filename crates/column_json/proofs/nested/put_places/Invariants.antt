use Rattle.std.specs.Prelude.{map, take}
use Rattle.column_grammar.specs.Values.{integer_value}
use Rattle.column_json.proofs.Tokens.{Begun}
use Rattle.column_json.proofs.nested.put_places.Given as goal

abbrev pub invariant-loop-offset : goal.invariant-loop-offset
invariant-loop-offset l = Begun l.initial.out l.out (map integer_value (take l.offset-index l.offsets))
