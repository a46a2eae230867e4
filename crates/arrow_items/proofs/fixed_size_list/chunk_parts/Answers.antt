use Rattle.std.proofs.Common.{sym, subst}
use Rattle.arrow_canon.specs.Runs.{AreWithin}
use Rattle.arrow_canon.proofs.Places.{within_mask}
use Rattle.arrow_items.proofs.fixed_size_list.chunk_parts.Goals as goal

pub struct_parts-requires : goal.struct_parts-requires
struct_parts-requires c = within_mask _ c.args.slots c.args.runs.now c.requires.mask c.requires.within

pub chunk_runs-requires-clause-within : goal.chunk_runs-requires-clause-within
chunk_runs-requires-clause-within c = subst (AreWithin c.args.slots) (sym c.as_slice.ensures.value) (c.in_ok-kept.ensures.inside c.args.slots c.requires.within)
