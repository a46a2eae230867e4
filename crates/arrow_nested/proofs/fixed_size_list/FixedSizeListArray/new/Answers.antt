use Rattle.std.proofs.Common.{ap, arith, ◌∙◌}
use Rattle.arrow_layout.specs.Layouts.{type_of}
use Rattle.arrow_types.specs.Seen.{seen}
use Rattle.arrow_types.specs.Types.{physical_of}
use Rattle.arrow_nested.proofs.FixedSizeLists.{parts_fit_here, stored_lists}
use Rattle.arrow_nested.proofs.fixed_size_list.FixedSizeListArray.new.Goals as goal

pub from_node-requires : goal.from_node-requires
from_node-requires c =
    let a = c.args in (
      parts_fit_here (seen a.dtype) a.validity c.size_in-size.result a.length a.values c.size_in-size.ensures (omega arith) (omega arith) c.requires c.invariant-2.ensures c.invariant.ensures,
      stored_lists (seen a.dtype) a.length a.values a.validity c.requires,
    )

pub invariant_of-result : goal.invariant_of-result
invariant_of-result c =
    let a = c.args in
    ap physical_of (ap type_of c.in_ok-array.ensures) ∙ stored_lists (seen a.dtype) a.length a.values a.validity c.requires
