use Rattle.std.proofs.Common.{◌<◌, subst, sym}
use Rattle.arrow_nested.proofs.FixedSizeLists.{values_count}
use Rattle.arrow_nested.proofs.fixed_size_list.FixedSizeListArray.get.Goals as goal

pub get-requires-clause-slot : goal.get-requires-clause-slot
get-requires-clause-slot c = subst (λ n. c.args.i < n) (sym (values_count c.args.self.now)) c.requires
