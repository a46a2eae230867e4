use Rattle.std.proofs.Common.{arith}
use Rattle.arrow_buffers.proofs.Bytes.{seen_length}
use Rattle.arrow_buffers.proofs.bitmap.Bitmap.set_bits.Goals as goal

pub returns-clause-fits : goal.returns-clause-fits
returns-clause-fits c = let n = seen_length _ _ _ _ c.self.view_is in let f = c.count_set.ensures.fits in omega arith
