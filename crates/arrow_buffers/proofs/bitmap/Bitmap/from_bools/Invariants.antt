use Rattle.std.proofs.Common.{◌≡◌, take}
use Rattle.arrow_buffers.proofs.bitmap.Bitmap.from_bools.Given as goal

abbrev pub invariant-loop-bit : goal.invariant-loop-bit
invariant-loop-bit l = l.built ≡ take l.bit-index l.bits
