use Rattle.std.proofs.Common.{◌<◌, subst, sym}
use Rattle.arrow_nested.proofs.Lists.{values_count}
use Rattle.arrow_nested.proofs.list.ListArray.get.Goals as goal

pub get-requires-clause-slot : goal.get-requires-clause-slot
get-requires-clause-slot g c = subst (λ n. c.args.i < n) (sym (values_count c.args.self.now c.invariant.ensures.lists)) c.requires
