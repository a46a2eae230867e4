use Rattle.std.proofs.Common.{◌+◌, ◌*◌, flat_map, take}
use Rattle.arrow_layout.specs.Layouts.{layouts}
use Rattle.arrow_layout.specs.NodeCount.{node_count, node_counts}
use Rattle.arrow_layout.specs.Spelling.{slot_bytes}
use Rattle.arrow_scalar.specs.Spellings.{slot_at, spellings}
use Rattle.arrow_scalar.proofs.spelling.+spell.Given as goal

abbrev pub invariant-spell_each-loop-i : goal.invariant-spell_each-loop-i
invariant-spell_each-loop-i g l = g.W.SpellingOut.Appended l.initial.out (spellings l.array l.start l.i) l.out

abbrev pub invariant-spell_row-loop-child : goal.invariant-spell_row-loop-child
invariant-spell_row-loop-child g l =
    g.W.SpellingOut.Appended l.initial.out (flat_map (λ c. slot_bytes (slot_at c l.fn.i)) (take l.child-index l.children)) l.out

-- the arrays that the array is made of, and among the functions at one array the order in which they call each other
abbrev pub decreases-spell_slot : goal.decreases-spell_slot
decreases-spell_slot g l = 4 * node_count l.array.now + 1

abbrev pub decreases-spell_valid : goal.decreases-spell_valid
decreases-spell_valid g l = 4 * node_count l.array.now

abbrev pub decreases-spell_each : goal.decreases-spell_each
decreases-spell_each g l = 4 * node_count l.array.now + 2

abbrev pub decreases-spell_items : goal.decreases-spell_items
decreases-spell_items g l = 4 * node_count l.child.now + 3

abbrev pub decreases-spell_row : goal.decreases-spell_row
decreases-spell_row g l = 4 * node_counts (layouts l.children.now) + 2

abbrev pub decreases-spell_chosen : goal.decreases-spell_chosen
decreases-spell_chosen g l = 4 * node_count l.child.now + 2
