use Rattle.std.proofs.Common.{◌≡◌, ◌+◌, pos, ◌<ℤ◌, drop, map, ap, sym, ◌∙◌, subst, arith}
use Rattle.std.proofs.lemmas.Int.{ints}
use Rattle.arrow_buffers.specs.Offsets.{Ascend, falls}
use Rattle.arrow_buffers.proofs.Ascending.{numbers_rest, falls_here, falls_later}
use Rattle.arrow_buffers.proofs.offsets.is_falling.Goals as goal

pub returns-then-is_negative-clause-value : goal.returns-then-is_negative-clause-value
returns-then-is_negative-clause-value g c =
    let number = g.O.Offset.number in
    let items = c.args.items.now in
    let x = c.item-item.result in
    let d = numbers_rest number g.O.Offset.limit items c.loop-item.item-index x (omega arith) c.item-item.is in
    let n : number x <ℤ pos 0 = c.is_negative.ensures.0 c.if-is_negative.true in
    sym (falls_here (pos c.loop-item.least) (number x) (drop (c.loop-item.item-index + 1) (map number items)) (omega (arith, ints)))
    ∙ ap (falls (pos c.loop-item.least)) (sym d) ∙ c.loop-item.invariant.rest

pub returns-then-number-least-clause-value : goal.returns-then-number-least-clause-value
returns-then-number-least-clause-value g c =
    let number = g.O.Offset.number in
    let items = c.args.items.now in
    let x = c.item-item.result in
    let d = numbers_rest number g.O.Offset.limit items c.loop-item.item-index x (omega arith) c.item-item.is in
    let n : number x ≡ pos c.to_usize-number.result = c.to_usize-number.ensures.value in
    sym (falls_here (pos c.loop-item.least) (number x) (drop (c.loop-item.item-index + 1) (map number items)) (omega (arith, ints)))
    ∙ ap (falls (pos c.loop-item.least)) (sym d) ∙ c.loop-item.invariant.rest

pub loop-item-preserved : goal.loop-item-preserved
loop-item-preserved g c =
    let number = g.O.Offset.number in
    let items = c.args.items.now in
    let x = c.item-item.result in
    let d = numbers_rest number g.O.Offset.limit items c.loop-item.item-index x (omega arith) c.item-item.is in
    let n : number x ≡ pos c.to_usize-number.result = c.to_usize-number.ensures.value in
    let later = drop (c.loop-item.item-index + 1) (map number items) in
    record {
      rest = ap (λ y. falls y later) (sym n) ∙ sym (falls_later (pos c.loop-item.least) (number x) later (omega (arith, ints)))
          ∙ ap (falls (pos c.loop-item.least)) (sym d) ∙ c.loop-item.invariant.rest;
      ascend = λ h. c.loop-item.invariant.ascend
          (subst (Ascend g.O.Offset.limit (pos c.loop-item.least)) (sym d)
          (omega (arith, ints), omega (arith, ints), subst (λ y. Ascend g.O.Offset.limit y later) (sym n) h));
    }
