use Rattle.std.proofs.Common.{◌++◌, List, take}
use Rattle.arrow_flat.specs.Slots.{Slot, null}
use Rattle.arrow_layout.specs.Canon.{distinct}
use Rattle.arrow_layout.specs.Denote.{denote}
use Rattle.arrow_canon.specs.Picks.{picks}
use Rattle.arrow_gather.specs.Met.{AreKeyed, AreKeysOf}
use Rattle.arrow_gather.proofs.distinct_values.KeyedSlots.extend.Given as goal

abbrev pub invariant-loop-position : goal.invariant-loop-position
invariant-loop-position l =
    let more = picks null (denote l.array) (take l.position-index l.positions) in
    (s : List Slot) → AreKeyed l.array s l.fn.self → AreKeyed l.array (s ++ more) l.self × AreKeysOf l.array (distinct (s ++ more)) l.keys
