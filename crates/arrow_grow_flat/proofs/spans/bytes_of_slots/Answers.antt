use Rattle.std.proofs.Common.{◌≡◌, ◌+◌, ◌-◌, List, ℕ, length, ap, ◌∙◌, arith}
use Rattle.arrow_grow_flat.proofs.JoinedSpans.{run_within, span_begins, span_bytes, span_ends}
use Rattle.arrow_grow_flat.proofs.spans.bytes_of_slots.Goals as goal

pub bytes_between-requires-clause-ordered : goal.bytes_between-requires-clause-ordered
bytes_between-requires-clause-ordered g c =
    let number = g.O.Offset.number in
    let a = c.args.source.now in
    let w = c.invariant.ensures.sound in
    let o = c.args.start in
    let n = c.args.len in
    let last = o + n - 1 + 1 in
    let same : o + n ≡ last = omega (arith, c.if-len-eq0.false) in
    omega (
      arith,
      (run_within number a w o n c.requires).0,
      span_begins number a w o n c.requires c.offsets.result.now c.start_end-from.result.0 c.offsets.ensures c.start_end-from.ensures.start,
      span_ends number a w o n c.requires c.offsets-2.result.now c.start_end-to.result.1 last c.offsets-2.ensures same c.start_end-to.ensures.end,
    )

pub bytes_between-requires-clause-within : goal.bytes_between-requires-clause-within
bytes_between-requires-clause-within g c =
    let number = g.O.Offset.number in
    let a = c.args.source.now in
    let w = c.invariant.ensures.sound in
    let o = c.args.start in
    let n = c.args.len in
    let last = o + n - 1 + 1 in
    let same : o + n ≡ last = omega (arith, c.if-len-eq0.false) in
    omega (
      arith,
      (run_within number a w o n c.requires).1,
      span_ends number a w o n c.requires c.offsets-2.result.now c.start_end-to.result.1 last c.offsets-2.ensures same c.start_end-to.ensures.end,
      ap (λ (xs : List ℕ). length xs) (c.as_slice-values.ensures ∙ c.values.ensures),
    )

pub returns : goal.returns
returns g c =
    let number = g.O.Offset.number in
    let a = c.args.source.now in
    let w = c.invariant.ensures.sound in
    let o = c.args.start in
    let n = c.args.len in
    let last = o + n - 1 + 1 in
    let same : o + n ≡ last = omega (arith, c.if-len-eq0.false) in
    c.bytes_between.ensures
    ∙ span_bytes number a w o n c.requires c.as_slice-values.result.now c.start_end-from.result.0 c.start_end-to.result.1 (c.as_slice-values.ensures ∙ c.values.ensures)
    (span_begins number a w o n c.requires c.offsets.result.now c.start_end-from.result.0 c.offsets.ensures c.start_end-from.ensures.start)
    (span_ends number a w o n c.requires c.offsets-2.result.now c.start_end-to.result.1 last c.offsets-2.ensures same c.start_end-to.ensures.end)
