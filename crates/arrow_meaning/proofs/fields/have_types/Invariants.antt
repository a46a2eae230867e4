use Rattle.std.proofs.Common.{◌↔◌, drop}
use Rattle.arrow_types.specs.Seen.{seen_fields}
use Rattle.arrow_layout.specs.Layouts.{layouts}
use Rattle.arrow_layout.specs.WellFormed.{HaveTypes}
use Rattle.arrow_meaning.proofs.fields.have_types.Given as goal

-- the children from here on have their types exactly where all of them do
abbrev pub invariant-loop-i : goal.invariant-loop-i
invariant-loop-i l = HaveTypes (seen_fields (drop l.i l.fields)) (layouts (drop l.i l.children)) ↔ HaveTypes (seen_fields l.fields) (layouts l.children)
