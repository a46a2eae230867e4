use Rattle.arrow_bytes.proofs.Carried.{others_unsized}
use Rattle.arrow_bytes.proofs.fixed_size_binary.FixedSizeBinaryArray.+maybe_get_size.Goals as goal

pub returns-in_default : goal.returns-in_default
returns-in_default t c = others_unsized c.args.dtype.now c.in_default.not-FixedSizeBinary c.in_default.not-Extension
