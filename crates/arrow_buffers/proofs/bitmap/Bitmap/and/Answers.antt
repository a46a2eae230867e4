use Rattle.std.proofs.Common.{◌&&◌, false, [], ◌∷◌, ◌++◌, take, get_or, ap, sym, ◌∙◌, arith}
use Rattle.arrow_buffers.specs.Bits.{both}
use Rattle.arrow_buffers.proofs.Bytes.{both_more}
use Rattle.arrow_buffers.proofs.bitmap.Bitmap.and.Goals as goal

pub loop-i-preserved : goal.loop-i-preserved
loop-i-preserved c =
    c.in_ok-push.ensures.ok
    ∙ ap (λ xs. xs ++ (c.get_bit.result && c.get_bit-in-loop-i.result) ∷ []) c.loop-i.invariant
    ∙ ap (λ x. both (take c.loop-i.i c.args.self.now.bits) (take c.loop-i.i c.args.other.now.bits) ++ (x && c.get_bit-in-loop-i.result) ∷ []) c.get_bit.ensures
    ∙ ap (λ x. both (take c.loop-i.i c.args.self.now.bits) (take c.loop-i.i c.args.other.now.bits) ++ (get_or c.args.self.now.bits c.loop-i.i false && x) ∷ []) c.get_bit-in-loop-i.ensures
    ∙ sym (both_more c.args.self.now.bits c.args.other.now.bits c.loop-i.i (omega arith) (omega arith))
