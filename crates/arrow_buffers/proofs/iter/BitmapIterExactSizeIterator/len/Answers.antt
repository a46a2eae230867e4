use Rattle.std.proofs.Common.{sym}
use Rattle.arrow_buffers.proofs.Bytes.{left_length}
use Rattle.arrow_buffers.proofs.iter.BitmapIterExactSizeIterator.len.Goals as goal

pub returns-clause-value : goal.returns-clause-value
returns-clause-value c = sym (left_length _ _ _ _ c.self.view_is)
