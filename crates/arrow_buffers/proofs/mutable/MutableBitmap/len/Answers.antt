use Rattle.std.proofs.Common.{sym}
use Rattle.arrow_buffers.proofs.Bytes.{left_length}
use Rattle.arrow_buffers.proofs.mutable.MutableBitmap.len.Goals as goal

pub returns : goal.returns
returns c = sym (left_length _ _ _ _ c.self.view_is)
