use Rattle.std.proofs.Common.{◌<◌, ℕ, zero, suc, sym, subst, arith}
use Rattle.arrow_buffers.specs.Bits.{lead_of}
use Rattle.arrow_buffers.proofs.Bytes.{seen_length}
use Rattle.arrow_buffers.proofs.bitmap.Bitmap.len.Goals as goal

lead_below : (start n : ℕ) → lead_of start n < 8
lead_below start zero = omega arith
lead_below start (suc n) = omega arith

pub returns-clause-value : goal.returns-clause-value
returns-clause-value c = sym (seen_length c.self.inside.bytes _ _ _ c.self.view_is)

pub returns-clause-led : goal.returns-clause-led
returns-clause-led c = subst (λ b. b.lead < 8) c.self.view_is (lead_below c.self.inside.start c.self.inside.slots)
