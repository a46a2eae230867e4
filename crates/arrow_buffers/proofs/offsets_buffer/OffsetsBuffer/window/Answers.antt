use Rattle.std.proofs.Common.{◌≡◌, ◌+◌, ◌-◌, take, drop, map, length, ap, sym, ◌∙◌, subst, arith}
use Rattle.arrow_buffers.specs.Offsets.{AreOffsets}
use Rattle.arrow_buffers.proofs.Ascending.{numbers_window}
use Rattle.arrow_buffers.proofs.offsets_buffer.OffsetsBuffer.window.Goals as goal

pub returns-clause-value : goal.returns-clause-value
returns-clause-value g c =
    let n : c.args.start + c.args.len + 1 - c.args.start ≡ c.args.len + 1 = omega arith in
    ap (λ k. take k (drop c.args.start c.as_slice.result.now)) n
    ∙ ap (λ xs. take (c.args.len + 1) (drop c.args.start xs)) (c.as_slice.ensures ∙ c.self.view_is)

pub returns-clause-sound : goal.returns-clause-sound
returns-clause-sound g c =
    let n : c.args.start + c.args.len + 1 - c.args.start ≡ c.args.len + 1 = omega arith in
    let l = ap length c.self.view_is in
    subst (λ xs. AreOffsets g.O.Offset.limit (map g.O.Offset.number xs))
    (sym (ap (λ k. take k (drop c.args.start c.as_slice.result.now)) n ∙ ap (λ xs. take (c.args.len + 1) (drop c.args.start xs)) c.as_slice.ensures))
    (numbers_window g.O.Offset.number g.O.Offset.limit c.self.inside.items c.args.start c.args.len c.self.invariant (omega arith))
