use Rattle.std.proofs.Common.{◌<◌, subst, sym}
use Rattle.arrow_layout.specs.Layouts.{length_of}
use Rattle.arrow_nested.proofs.Lists.{values_count, values_covered}
use Rattle.arrow_nested.proofs.list.RefListArrayMakingAccessorArrayRefAllocErrorArrayRef.is_valid.Goals as goal

pub is_valid-requires : goal.is_valid-requires
is_valid-requires g c =
    subst (λ a. c.args.i < length_of a) (sym c.self.view_is) (subst (λ n. c.args.i < n) (values_count c.args.self.now c.invariant.ensures.lists) c.requires)

pub returns-clause-fits : goal.returns-clause-fits
returns-clause-fits g c = values_covered c.args.self.now c.invariant.ensures.lists c.invariant.ensures.well_formed
