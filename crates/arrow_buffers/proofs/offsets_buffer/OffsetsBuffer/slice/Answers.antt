use Rattle.std.proofs.Common.{map, length, ap, sym, subst, arith}
use Rattle.arrow_buffers.specs.Offsets.{AreOffsets}
use Rattle.arrow_buffers.proofs.Ascending.{numbers_window}
use Rattle.arrow_buffers.proofs.offsets_buffer.OffsetsBuffer.slice.Goals as goal

pub overflow_add-slots : goal.overflow_add-slots
overflow_add-slots g c = let e = ap length c.self.view_is in omega arith

pub invariant_of-self : goal.invariant_of-self
invariant_of-self g c =
    subst (λ xs. AreOffsets g.O.Offset.limit (map g.O.Offset.number xs)) (sym c.slice.ensures)
    (numbers_window g.O.Offset.number g.O.Offset.limit c.self.inside.items c.args.offset c.args.slots c.self.invariant (let e = ap length c.self.view_is in omega arith))
