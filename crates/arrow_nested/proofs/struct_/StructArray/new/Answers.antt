use Rattle.std.proofs.Common.{ap, arith, subst, ◌∙◌}
use Rattle.arrow_layout.specs.FitsHere.{AllWellFormed}
use Rattle.arrow_layout.specs.Layouts.{layouts, type_of}
use Rattle.arrow_types.specs.Seen.{seen}
use Rattle.arrow_types.specs.Types.{physical_of}
use Rattle.arrow_nested.proofs.Structs.{parts_fit_here, stored_structs}
use Rattle.arrow_nested.proofs.struct_.StructArray.new.Goals as goal

pub from_node-requires : goal.from_node-requires
from_node-requires c =
    let a = c.args in
    let ls = layouts a.values.items in
    let well = subst (λ xs. AllWellFormed (layouts xs)) c.deref.ensures.value c.all_invariant.ensures in
    (parts_fit_here (seen a.dtype) a.validity a.length ls (omega arith) c.requires c.invariant.ensures well, stored_structs (seen a.dtype) a.length ls a.validity c.requires)

pub invariant_of-result : goal.invariant_of-result
invariant_of-result c =
    let a = c.args in
    ap physical_of (ap type_of c.in_ok-array.ensures) ∙ stored_structs (seen a.dtype) a.length (layouts a.values.items) a.validity c.requires
