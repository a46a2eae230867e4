use Rattle.std.proofs.Common.{sym}
use Rattle.arrow_grow_flat.proofs.NullRuns.{source_nulls}
use Rattle.arrow_grow_flat.proofs.null.GrowableNullGrowable.array_len.Goals as goal

pub returns : goal.returns
returns c = sym (source_nulls c.args.self.now c.sound.ensures.stored c.args._index)
