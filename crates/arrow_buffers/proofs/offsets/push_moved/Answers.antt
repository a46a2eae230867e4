use Rattle.std.proofs.Common.{◌+◌, ◌-◌, [], ◌∷◌, ◌++◌, map, take, pos, ap, sym, ◌∙◌, arith}
use Rattle.std.proofs.lemmas.Int.{ints}
use Rattle.arrow_buffers.specs.Offsets.{moved, to_nat}
use Rattle.arrow_buffers.proofs.Ascending.{number_between, moved_more, numbers_more}
use Rattle.arrow_buffers.proofs.offsets.push_moved.Goals as goal

pub to_usize-requires : goal.to_usize-requires
to_usize-requires g c =
    let b = (number_between g.O.Offset.number g.O.Offset.limit c.args.others.now c.loop-other.other-index c.other-item.result c.args.first c.requires.ascend
    (omega arith) c.other-item.is).0 in
    omega (arith, ints)

pub overflow_sub-to_usize : goal.overflow_sub-to_usize
overflow_sub-to_usize g c =
    let b = (number_between g.O.Offset.number g.O.Offset.limit c.args.others.now c.loop-other.other-index c.other-item.result c.args.first c.requires.ascend
    (omega arith) c.other-item.is).0 in
    let v = c.to_usize.ensures.value in
    omega (arith, ints)

pub offset_at-requires : goal.offset_at-requires
offset_at-requires g c =
    let b = (number_between g.O.Offset.number g.O.Offset.limit c.args.others.now c.loop-other.other-index c.other-item.result c.args.first c.requires.ascend
    (omega arith) c.other-item.is).1 in
    let v = c.to_usize.ensures.value in
    let f = c.requires.fits in
    omega (arith, ints)

pub loop-other-preserved : goal.loop-other-preserved
loop-other-preserved g c =
    let number = g.O.Offset.number in
    let others = c.args.others.now in
    let i = c.loop-other.other-index in
    record {
      made = numbers_more number c.reserve.new.self.items c.loop-other.items.items c.push_reserved.new.self.items
          (moved c.args.first c.args.end (map number (take i others))) c.offset_at.result (c.args.end + (to_nat (number c.other-item.result) - c.args.first))
          c.loop-other.invariant.made c.push_reserved.ensures.items
          (c.offset_at.ensures ∙ ap (λ z. pos (c.args.end + (to_nat z - c.args.first))) (sym c.to_usize.ensures.value))
          ∙ ap (λ z. map number c.reserve.new.self.items ++ (moved c.args.first c.args.end (map number (take i others)) ++ pos (c.args.end + (to_nat (number z) - c.args.first)) ∷ [])) c.other-item.is
          ∙ ap (λ xs. map number c.reserve.new.self.items ++ xs) (sym (moved_more number c.args.first c.args.end others i c.other-item.result (omega arith)));
      room = let r = c.loop-other.invariant.room in let l = c.push_reserved.ensures.len in let k = c.push_reserved.ensures.capacity in omega arith;
    }
