use Rattle.std.proofs.Common.{take, ap, sym, ◌∙◌, arith, take_all}
use Rattle.std.proofs.lemmas.List.FromFn.{take-map-range_with_len}
use Rattle.arrow_buffers.specs.Bits.{bit_of}
use Rattle.arrow_buffers.proofs.Bytes.{left_length}
use Rattle.arrow_buffers.proofs.mutable.MutableBitmap.truncate.Goals as goal

pub returns-then-len-self : goal.returns-then-len-self
returns-then-len-self c =
    sym (take-map-range_with_len (bit_of c.self.inside.bytes.items) 0 c.self.inside.slots c.args.len (omega arith))
    ∙ ap (take c.args.len) c.self.view_is

pub returns-else-len-self : goal.returns-else-len-self
returns-else-len-self c =
    let n = left_length _ _ _ _ c.self.view_is in
    sym (take_all c.args.len c.args.self.now (omega arith))
