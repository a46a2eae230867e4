use Rattle.arrow_meaning.proofs.KeysNamed.{NamedTo, Names}
use Rattle.arrow_meaning.proofs.keys.name_values.Given as goal

abbrev pub invariant-loop-i : goal.invariant-loop-i
invariant-loop-i g l = NamedTo (Names g.K.NativeType.parts l.values) l.validity l.keys.values l.i
