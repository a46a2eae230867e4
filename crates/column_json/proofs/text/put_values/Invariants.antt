use Rattle.std.specs.Prelude.{map, take}
use Rattle.column_grammar.specs.Values.{number_value}
use Rattle.column_json.proofs.Tokens.{Begun}
use Rattle.column_json.proofs.text.put_values.Given as goal

abbrev pub invariant-loop-value : goal.invariant-loop-value
invariant-loop-value g l = Begun l.initial.out l.out (map (λ x. number_value g.T.NativeType.PRIMITIVE (g.T.NativeType.parts x)) (take l.value-index l.values))
