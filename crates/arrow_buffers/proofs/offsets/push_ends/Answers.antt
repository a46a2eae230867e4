use Rattle.std.proofs.Common.{◌≡◌, ◌+◌, ◌++◌, pos, map, take, sum, get_or, ap, sym, ◌∙◌, arith}
use Rattle.std.proofs.lemmas.List.Sums.{sum_by_more, sum_by_more_le}
use Rattle.arrow_buffers.specs.Offsets.{ends}
use Rattle.arrow_buffers.proofs.Ascending.{ends_more, numbers_more}
use Rattle.arrow_buffers.proofs.offsets.push_ends.Goals as goal

pub overflow_add-end : goal.overflow_add-end
overflow_add-end g c =
    let m = sum_by_more_le (λ x. x) c.args.lengths.now c.loop-length.length-index 0 (omega arith) in
    let l = g.met.O.Offset.limit_range.1 in
    let e = c.loop-length.invariant.at_end in
    omega arith

pub loop-length-preserved : goal.loop-length-preserved
loop-length-preserved g c =
    let lengths = c.args.lengths.now in
    let i = c.loop-length.length-index in
    let m = sum_by_more (λ x. x) lengths i 0 (omega arith) in
    let e = c.loop-length.invariant.at_end in
    let n : c.loop-length.end + get_or lengths i 0 ≡ c.args.start + sum (take i lengths) + get_or lengths i 0 = omega arith in
    record {
      at_end = omega arith;
      made = numbers_more g.O.Offset.number c.reserve.new.self.items c.loop-length.items.items c.push_reserved.new.self.items (ends c.args.start (take i lengths))
          c.offset_at.result (c.args.start + sum (take i lengths) + get_or lengths i 0) c.loop-length.invariant.made c.push_reserved.ensures.items
          (c.offset_at.ensures ∙ ap pos n)
          ∙ ap (λ xs. map g.O.Offset.number c.reserve.new.self.items ++ xs) (sym (ends_more c.args.start lengths i 0 (omega arith)));
      room = let r = c.loop-length.invariant.room in let l = c.push_reserved.ensures.len in let k = c.push_reserved.ensures.capacity in omega arith;
    }
