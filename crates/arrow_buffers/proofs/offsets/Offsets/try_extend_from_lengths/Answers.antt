use Rattle.std.proofs.Common.{pos, ap, sym, ◌∙◌, subst, arith}
use Rattle.arrow_buffers.specs.Offsets.{ends, Ascend, to_nat}
use Rattle.arrow_buffers.proofs.Ascending.{numbers_append, ascend_ends, last_number}
use Rattle.arrow_buffers.proofs.offsets.Offsets.try_extend_from_lengths.Goals as goal

pub invariant_of-self-2 : goal.invariant_of-self-2
invariant_of-self-2 g c =
    let number = g.O.Offset.number in
    let limit = g.O.Offset.limit in
    let items = c.self.inside.items.items in
    let v = ap to_nat c.to_usize.ensures.value in
    let e = last_number number limit items c.as_slice.result.now c.last_of-last.result c.last_of-last.ensures.number c.as_slice.ensures.value in
    let l = c.in-Some.ensures.1 in
    numbers_append number limit items c.push_ends.new.items.items (ends c.to_usize.result c.args.lengths.now) c.in_ok-push_ends.ensures.ok c.self.invariant
    (subst (λ a. Ascend limit (pos a) (ends c.to_usize.result c.args.lengths.now)) (sym v ∙ e)
    (ascend_ends limit c.to_usize.result c.args.lengths.now (omega arith)))
