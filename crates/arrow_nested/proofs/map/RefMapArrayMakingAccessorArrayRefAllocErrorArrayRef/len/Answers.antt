use Rattle.std.proofs.Common.{ap, sym, ◌∙◌}
use Rattle.arrow_layout.specs.Layouts.{length_of}
use Rattle.arrow_nested.proofs.Lists.{values_count, values_covered}
use Rattle.arrow_nested.proofs.map.RefMapArrayMakingAccessorArrayRefAllocErrorArrayRef.len.Goals as goal

pub returns-clause-count : goal.returns-clause-count
returns-clause-count c = c.len.ensures ∙ ap length_of c.self.view_is ∙ sym (values_count c.args.self.now c.invariant.ensures.lists)

pub returns-clause-fits : goal.returns-clause-fits
returns-clause-fits c = values_covered c.args.self.now c.invariant.ensures.lists c.invariant.ensures.well_formed
