use Rattle.std.proofs.Common.{sym, ◌∙◌, arith}
use Rattle.arrow_grow_flat.proofs.JoinedSpans.{equal_more, same_bit}
use Rattle.arrow_grow_flat.proofs.spans.run_end.Goals as goal

pub loop-to-preserved : goal.loop-to-preserved
loop-to-preserved c =
    let i = c.loop-to.invariant in
    let inside = c.loop-to-test.true in
    record {
      bit = i.bit;
      some = omega (arith, i.some);
      within = omega (arith, inside);
      equal = equal_more c.args.mask.now.bits c.args.from c.loop-to.to c.get_bit-bit.result i.some (omega (arith, inside, c.requires.reached)) i.equal (sym c.get_bit.ensures ∙ same_bit c.get_bit.result c.get_bit-bit.result c.if-get_bit-bit.true);
    }
