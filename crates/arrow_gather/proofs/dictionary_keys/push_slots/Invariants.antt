use Rattle.std.proofs.Common.{◌≡◌, ◌++◌, ◌-◌, ◌≤◌}
use Rattle.arrow_meaning.specs.Nodes.{primitive_layout}
use Rattle.arrow_canon.specs.Picks.{span}
use Rattle.arrow_gather.specs.Distincts.{value_places}
use Rattle.arrow_gather.proofs.dictionary_keys.push_slots.Given as goal

abbrev pub invariant-loop-i : goal.invariant-loop-i
invariant-loop-i g l =
    (l.positions.items ≡ l.initial.positions.items ++ value_places (primitive_layout g.K.NativeType.parts l.fn.keys) (span l.fn.start (l.i - l.fn.start))) × (l.fn.start ≤ l.i)
