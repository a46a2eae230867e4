use Rattle.std.proofs.Common.{◌≡◌, map, take}
use Rattle.std.specs.Prelude.{pos}
use Rattle.arrow_meaning.specs.Nodes.{key_number}
use Rattle.arrow_gather.proofs.dictionary_keys.key_values.Given as goal

abbrev pub invariant-loop-position : goal.invariant-loop-position
invariant-loop-position g l = map key_number (map g.K.NativeType.parts l.keys.items) ≡ map pos (take l.position-index l.positions)
