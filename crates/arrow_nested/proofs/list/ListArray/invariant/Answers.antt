use Rattle.std.proofs.Common.{subst}
use Rattle.arrow_nested.specs.Lists.{IsLists}
use Rattle.arrow_meaning.specs.Nodes.{physical_list}
use Rattle.arrow_nested.proofs.Lists.{list_kinds, lists_by_type}
use Rattle.arrow_nested.proofs.list.ListArray.invariant.Goals as goal

pub returns-clause-lists : goal.returns-clause-lists
returns-clause-lists g c =
    subst IsLists c.self.view_is (lists_by_type c.self.inside.array (physical_list g.O.Offset.IS_LARGE) c.invariant.ensures c.self.invariant (list_kinds g.O.Offset.IS_LARGE))
