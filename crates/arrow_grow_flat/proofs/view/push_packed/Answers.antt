use Rattle.std.proofs.Common.{◌≡◌, suc, ◌+◌, length, ap, arith}
use Rattle.arrow_flat.specs.Natives.{octets}
use Rattle.arrow_meaning.proofs.Octets.{octets_count}
use Rattle.arrow_grow_flat.specs.SharedViews.{byte_count, slot_value, slot_values}
use Rattle.arrow_grow_flat.proofs.PackedValues.{keep_again}
use Rattle.arrow_grow_flat.proofs.ViewValues.{count_past, count_push, one_more}
use Rattle.arrow_grow_flat.proofs.view.push_packed.Goals as goal

pub returns-in_err-total-clause-overflow : goal.returns-in_err-total-clause-overflow
returns-in_err-total-clause-overflow g c refused =
    let a = c.args.array.now in
    omega (
      arith,
      c.in_err-total.ensures.1,
      c.loop-i.invariant.counted,
      octets_count c.slot_bytes-value.result.now,
      ap length c.slot_bytes-value.ensures.value,
      count_past a c.args.start c.loop-i.i c.args.len c.loop-i-test.true,
    )

pub loop-i-preserved : goal.loop-i-preserved
loop-i-preserved g c =
    let a = c.args.array.now in
    let i = c.loop-i.i in
    let o = c.args.start in
    let now = c.loop-i.packer.buffers in
    let then = c.pack_value.new.packer.buffers in
    let value = c.slot_bytes-value.result.now in
    let next : i + 1 ≡ suc i = omega arith in
    let one =
    one_more now then c.args.views.now.items c.loop-i.views.items c.push.new.self.items c.in_ok-pack_value.field-0 a o i (octets value) c.pack_value.ensures.keep c.loop-i.invariant.front c.loop-i.invariant.more
    c.in_ok-pack_value.ensures.view c.slot_bytes-value.ensures.value c.in_ok-push.ensures.items in
    record {
      limit = c.pack_value.ensures.limit;
      keep = keep_again c.args.packer.now.buffers now then c.loop-i.invariant.keep c.pack_value.ensures.keep;
      front = one.0;
      more = one.1;
      counted =
          omega (
            arith,
            c.in_ok-total.ensures.0,
            c.loop-i.invariant.counted,
            octets_count value,
            ap length c.slot_bytes-value.ensures.value,
            count_push (slot_values a o i) (slot_value a (o + i)),
            ap (λ k. byte_count (slot_values a o k)) next,
          );
      within = c.in_ok-total.ensures.1;
    }
