use Rattle.std.proofs.Common.{arith}
use Rattle.arrow_buffers.proofs.Bytes.{seen_length, seen_cut}
use Rattle.arrow_buffers.proofs.bitmap.Bitmap.slice.Goals as goal

pub overflow_add-self : goal.overflow_add-self
overflow_add-self c = let n = seen_length _ _ _ _ c.self.view_is in omega arith

pub invariant_of-self : goal.invariant_of-self
invariant_of-self c = let n = seen_length _ _ _ _ c.self.view_is in (omega arith, omega arith)

pub returns : goal.returns
returns c = let n = seen_length _ _ _ _ c.self.view_is in seen_cut _ _ _ _ _ _ c.self.view_is (omega arith)
