use Rattle.std.proofs.Common.{map, sym, subst}
use Rattle.arrow_buffers.specs.Offsets.{AreOffsets}
use Rattle.arrow_buffers.proofs.Ascending.{numbers_take}
use Rattle.arrow_buffers.proofs.offsets.Offsets.truncate.Goals as goal

pub invariant_of-self : goal.invariant_of-self
invariant_of-self g c =
    subst (λ xs. AreOffsets g.O.Offset.limit (map g.O.Offset.number xs)) (sym c.truncate.ensures.items)
    (numbers_take g.O.Offset.number g.O.Offset.limit c.self.inside.items.items c.args.slots c.self.invariant)
