use Rattle.std.specs.Prelude.{map, take}
use Rattle.column_grammar.specs.Writes.{data_value}
use Rattle.column_json.proofs.Tokens.{Begun}
use Rattle.column_json.proofs.nested.+put_data.Given as goal

abbrev pub invariant-put_each-loop-array : goal.invariant-put_each-loop-array
invariant-put_each-loop-array l = Begun l.initial.out l.out (map data_value (take l.array-index l.arrays))
