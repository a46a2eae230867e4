use Rattle.std.proofs.Common.{◌≡◌, take}
use Rattle.arrow_buffers.specs.Bits.{both}
use Rattle.arrow_buffers.proofs.bitmap.Bitmap.and.Given as goal

abbrev pub invariant-loop-i : goal.invariant-loop-i
invariant-loop-i l = l.built ≡ both (take l.i l.self.bits) (take l.i l.other.bits)
