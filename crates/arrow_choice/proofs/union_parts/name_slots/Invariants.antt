use Rattle.std.proofs.Common.{◌<◌, ℕ}
use Rattle.arrow_types.specs.Seen.{seen}
use Rattle.arrow_types.specs.Select.{select}
use Rattle.arrow_layout.specs.Forms.{form_of, ids_by}
use Rattle.arrow_layout.specs.Layouts.{layouts, lengths_of}
use Rattle.arrow_choice.proofs.Unions.{IsNamed}
use Rattle.arrow_choice.proofs.union_parts.name_slots.Given as goal

abbrev pub invariant-loop-i : goal.invariant-loop-i
invariant-loop-i l = (k : ℕ) → k < l.i → IsNamed (select (ids_by (form_of (seen l.dtype)))) (lengths_of (layouts l.children)) l.types l.offsets k
