use Rattle.std.proofs.Common.{arith}
use Rattle.arrow_types.specs.Seen.{seen}
use Rattle.arrow_nested.proofs.Nulls.{nulls_fit}
use Rattle.arrow_nested.proofs.null.NullArray.new.Goals as goal

pub from_node-requires : goal.from_node-requires
from_node-requires c = (nulls_fit (seen c.args.dtype) c.args.length c.requires (omega arith), c.requires)
