use Rattle.arrow_types.specs.Seen.{seen}
use Rattle.arrow_grow_flat.proofs.NullRuns.{slot_count}
use Rattle.arrow_grow_flat.proofs.null.GrowableNullGrowable.len.Goals as goal

pub returns : goal.returns
returns c alive = let s = c.self.inside in slot_count (seen s.dtype) s.length c.self.invariant s.failed c.args.self.now c.self.view_is
