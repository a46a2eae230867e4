use Rattle.std.proofs.Common.{arith, ◌∙◌}
use Rattle.arrow_grow_flat.proofs.SharedViews.{shift_is}
use Rattle.arrow_grow_flat.proofs.view.shift.Goals as goal

pub returns : goal.returns
returns c =
    c.new_long.ensures
    ∙ shift_is c.args.first c.args.view.now c.as_bytes-bytes.result.now c.length-2.result c.buffer.result c.offset.result c.as_bytes-bytes.ensures.bytes c.as_bytes-bytes.ensures.placed
    (omega (arith, c.if-length-le12.false, c.length.ensures.value, c.length-2.ensures.value)) c.length-2.ensures.value c.buffer.ensures c.offset.ensures
