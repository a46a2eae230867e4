use Rattle.std.proofs.Common.{Some, ap, arith, ◌∙◌}
use Rattle.std.specs.Option.{option_copied}
use Rattle.arrow_flat.specs.Primitives.{masked_values}
use Rattle.arrow_canon.proofs.JoinedRuns.{bytes_slot}
use Rattle.arrow_canon.proofs.joined.push_slots.Goals as goal

pub loop-i-preserved : goal.loop-i-preserved
loop-i-preserved g c =
    let a = c.args.array in (
      bytes_slot (masked_values (g.A.ArrayAccessor.mask a) (g.A.ArrayAccessor.values a)) c.args.zeros c.args.bytes.now.items c.args.start c.loop-i.i (option_copied c.get.result)
          c.loop-i.bytes.items c.push_slot.new.bytes.items c.loop-i.invariant.1 (c.get.ensures ∙ ap (λ f. Some (f c.get.result)) c.requires.seen) c.loop-i.invariant.0 c.in_ok-push_slot.ensures,
      omega (arith, c.loop-i.invariant.1),
    )
