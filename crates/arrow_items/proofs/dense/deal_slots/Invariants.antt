use Rattle.std.proofs.Common.{◌≡◌, ℕ, ◌-◌, ◌≤◌, List, length, map, flat_map}
use Rattle.arrow_types.specs.Select.{nat_of}
use Rattle.arrow_layout.specs.WellFormed.{AllNamed}
use Rattle.arrow_canon.specs.Picks.{span}
use Rattle.arrow_items.specs.Dealt.{AllWithin, AreDealt, runs_of}
use Rattle.arrow_items.specs.Unions.{dense_places}
use Rattle.arrow_items.proofs.dense.deal_slots.Given as goal

abbrev pub invariant-loop-i : goal.invariant-loop-i
invariant-loop-i l =
    let of_field = dense_places l.fields (map nat_of l.offsets) in
    (length l.lists.items ≡ length l.initial.lists.items)
    × ((first : ℕ) → AreDealt (λ j. flat_map (of_field first j) (span l.start (l.i - l.start))) (runs_of l.initial.lists.items) (runs_of l.lists.items))
    × ((lengths : List ℕ) → AllNamed lengths l.fields (map nat_of l.offsets) → AllWithin lengths (runs_of l.initial.lists.items) → AllWithin lengths (runs_of l.lists.items))
    × (l.start ≤ l.i)
