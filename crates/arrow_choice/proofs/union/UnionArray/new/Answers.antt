use Rattle.std.proofs.Common.{subst}
use Rattle.arrow_layout.specs.FitsHere.{AllWellFormed}
use Rattle.arrow_layout.specs.Layouts.{layouts}
use Rattle.arrow_choice.proofs.UnionNodes.{union_sound}
use Rattle.arrow_choice.proofs.union.UnionArray.new.Goals as goal

pub from_node-requires : goal.from_node-requires
from_node-requires c =
    let children = subst (λ ls. AllWellFormed (layouts ls)) c.deref.ensures.value c.invariant.ensures.children in
    union_sound c.args.dtype c.args.types c.args.offsets c.args.fields c.requires children c.invariant.ensures.few
