use Rattle.std.proofs.Common.{subst}
use Rattle.arrow_nested.specs.Lists.{IsLists}
use Rattle.arrow_types.specs.declared.datatype.PhysicalType.TheVariants as physical
use Rattle.arrow_nested.proofs.Lists.{lists_by_type}
use Rattle.arrow_nested.proofs.map.MapArray.invariant.Goals as goal

pub returns-clause-lists : goal.returns-clause-lists
returns-clause-lists c =
    subst IsLists c.self.view_is (lists_by_type c.self.inside.array physical.Map c.invariant.ensures c.self.invariant tt)
