use Rattle.std.proofs.Common.{ap, ◌∙◌}
use Rattle.arrow_flat.specs.Natives.{octets}
use Rattle.arrow_views.proofs.Packed.{buffers_few, value_packed, value_viewed}
use Rattle.arrow_views.proofs.packer.push_values.Goals as goal

pub push_value-requires-clause-room : goal.push_value-requires-clause-room
push_value-requires-clause-room g c =
    buffers_few (g.A.BinaryValues.values c.args.values.now) c.loop-i.i c.loop-i.packer.buffers c.requires.few (ap (λ p. p.buffers) c.loop-i.invariant.0)

pub loop-i-preserved : goal.loop-i-preserved
loop-i-preserved g c =
    let vs = g.A.BinaryValues.values c.args.values.now in
    let v = octets c.value_at.result.now in (
      c.in_ok-view.ensures.1 ∙ value_packed vs c.loop-i.i v c.loop-i.packer c.value_at.ensures c.loop-i.invariant.0,
      c.in_ok-push.ensures.items
          ∙ value_viewed vs c.loop-i.i v c.loop-i.packer c.loop-i.views.items c.in_ok-view.view c.requires.fit c.value_at.ensures c.loop-i.invariant.0 c.loop-i.invariant.1
          c.in_ok-view.ensures.0,
    )
