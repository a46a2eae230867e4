use Rattle.std.specs.Prelude.{map, take}
use Rattle.column_grammar.specs.Values.{integer_value}
use Rattle.column_json.proofs.Tokens.{Begun}
use Rattle.column_json.proofs.text.put_offsets.Given as goal

abbrev pub invariant-loop-offset : goal.invariant-loop-offset
invariant-loop-offset g l = Begun l.initial.out l.out (map (λ o. integer_value (g.O.Offset.number o)) (take l.offset-index l.items))
