use Rattle.std.proofs.Common.{sym}
use Rattle.arrow_grow_flat.proofs.NullRuns.{null_sources}
use Rattle.arrow_grow_flat.proofs.null.GrowableNullGrowable.array_count.Goals as goal

pub returns : goal.returns
returns c = sym (null_sources c.args.self.now c.sound.ensures.stored)
