use Rattle.std.proofs.Common.{pos, map, drop, ap, sym, ◌∙◌, subst, arith}
use Rattle.std.proofs.lemmas.List.{take_rest}
use Rattle.arrow_buffers.specs.Offsets.{moved, Ascend, to_nat, end_of}
use Rattle.arrow_buffers.proofs.Ascending.{numbers_append, ascend_behind, last_number}
use Rattle.arrow_buffers.proofs.offsets.Offsets.try_extend_from_slice.Goals as goal

pub invariant_of-self-2 : goal.invariant_of-self-2
invariant_of-self-2 g c =
    let number = g.O.Offset.number in
    let limit = g.O.Offset.limit in
    let items = c.self.inside.items.items in
    let window = c.window-window.result.now in
    let v = ap to_nat c.to_usize.ensures.value in
    let e = last_number number limit items c.as_slice.result.now c.last_of-last.result c.last_of-last.ensures.number c.as_slice.ensures.value in
    let l = c.in-Some.ensures.1 in
    let f = c.bounds_of-first.ensures.end in
    numbers_append number limit items c.push_moved.new.items.items _ c.in_ok-push_moved.ensures.ok c.self.invariant
    (subst (λ ws. Ascend limit (pos (end_of (map number items))) (moved c.bounds_of-first.result.0 c.to_usize.result (map number ws))) (sym (take_rest window 1))
    (subst (λ a. Ascend limit (pos a) (moved c.bounds_of-first.result.0 c.to_usize.result (map number (drop 1 window)))) (sym v ∙ e)
    (ascend_behind number limit window c.bounds_of-first.result.0 c.to_usize.result c.window-window.ensures.sound c.bounds_of-first.ensures.first (omega arith))))
