use Rattle.std.proofs.Common.{◌+◌, map, pos, ap, sym, ◌∙◌, subst, arith}
use Rattle.arrow_buffers.specs.Offsets.{AreOffsets}
use Rattle.arrow_buffers.proofs.Ascending.{numbers_push, last_number}
use Rattle.arrow_buffers.proofs.offsets.Offsets.try_push.Goals as goal

pub invariant_of-self-2 : goal.invariant_of-self-2
invariant_of-self-2 g c =
    let number = g.O.Offset.number in
    let items = c.self.inside.items.items in
    let e = last_number number g.O.Offset.limit items c.as_slice.result.now c.last_of.result c.last_of.ensures.number c.as_slice.ensures.value in
    subst (λ xs. AreOffsets g.O.Offset.limit (map number xs)) (sym c.in_ok-push.ensures.items)
    (numbers_push number g.O.Offset.limit items c.in-Some.next c.args.length c.self.invariant
    (c.in-Some.ensures.0 ∙ ap (λ n. pos (n + c.args.length)) e) (let l = c.in-Some.ensures.1 in omega arith))
