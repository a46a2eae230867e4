use Rattle.std.proofs.Common.{false, length, get_or, ap, sym, ◌∙◌, arith}
use Rattle.std.proofs.lemmas.List.FromFn.{get_or-map-range_with_len}
use Rattle.arrow_buffers.specs.Bits.{bit_of}
use Rattle.arrow_buffers.proofs.Bytes.{left_length}
use Rattle.arrow_buffers.proofs.mutable.MutableBitmap.get.Goals as goal

pub bit_at-requires : goal.bit_at-requires
bit_at-requires c =
    let n = left_length _ _ _ _ c.self.view_is in
    let e = ap length c.as_slice.ensures.value in
    omega arith

pub returns : goal.returns
returns c =
    let n = left_length _ _ _ _ c.self.view_is in
    c.bit_at.ensures ∙ ap (λ bs. bit_of bs c.args.i) c.as_slice.ensures.value
    ∙ sym (get_or-map-range_with_len (bit_of c.self.inside.bytes.items) 0 c.self.inside.slots c.args.i c.args.i false (omega arith) (omega arith))
    ∙ ap (λ bs. get_or bs c.args.i false) c.self.view_is
