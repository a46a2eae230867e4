use Rattle.std.specs.Prelude.{count_ones}
use Rattle.std.proofs.Common.{◌≡◌, ◌+◌, ◌-◌, ◌*◌, ◌<◌, ◌≤◌, slice_index_or, ap, sym, refl, ◌∙◌, arith, rules, subst}
use Rattle.arrow_buffers.specs.Bits.{ones_of}
use Rattle.arrow_buffers.proofs.Bytes.{ones_bytes, ones_at_most}
use Rattle.arrow_buffers.proofs.bits.count_bytes.Goals as goal

pub loop-i-preserved : goal.loop-i-preserved
loop-i-preserved c =
    let n : c.loop-i.i + 1 - c.args.first ≡ c.loop-i.i - c.args.first + 1 = omega arith in
    let h : slice_index_or c.args.bytes.now c.loop-i.i 0 < 256 = search rules in
    let m = ones_bytes c.args.bytes.now c.args.first (c.loop-i.i - c.args.first) c.loop-i.i (slice_index_or c.args.bytes.now c.loop-i.i 0) (omega arith) h refl in
    let v = ap (λ t. t + count_ones (slice_index_or c.args.bytes.now c.loop-i.i 0)) c.loop-i.invariant.value ∙ sym m
    ∙ ap (λ k. ones_of c.args.bytes.now (8 * c.args.first) (8 * k)) (sym n) in
    record {
      value = v;
      fits = subst (λ t. t ≤ 8 * (c.loop-i.i + 1 - c.args.first)) (sym v) (ones_at_most c.args.bytes.now (8 * c.args.first) (8 * (c.loop-i.i + 1 - c.args.first)));
    }
