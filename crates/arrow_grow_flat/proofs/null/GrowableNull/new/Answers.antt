use Rattle.arrow_types.specs.Seen.{seen}
use Rattle.arrow_grow_flat.proofs.NullRuns.{fresh_are}
use Rattle.arrow_grow_flat.proofs.null.GrowableNull.new.Goals as goal

pub returns : goal.returns
returns c = fresh_are (seen c.args.dtype)
