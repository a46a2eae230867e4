use Rattle.std.proofs.Common.{◌++◌, ◌-◌, ◌∷◌, [], ap, arith, ◌∙◌}
use Rattle.arrow_meaning.specs.Nodes.{primitive_layout}
use Rattle.arrow_canon.specs.Picks.{span}
use Rattle.arrow_canon.proofs.Places.{mapped_span_more}
use Rattle.arrow_gather.specs.Distincts.{value_place, value_places}
use Rattle.arrow_gather.proofs.dictionary_keys.push_slots.Goals as goal

pub loop-i-preserved : goal.loop-i-preserved
loop-i-preserved g c =
    let ks = primitive_layout g.K.NativeType.parts c.args.keys.now in
    let i = c.loop-i.i in (
      c.in_ok-push.ensures.items
          ∙ ap (λ ps. ps ++ c.position_at.result ∷ []) c.loop-i.invariant.0
          ∙ ap (λ p. (c.args.positions.now.items ++ value_places ks (span c.args.start (i - c.args.start))) ++ p ∷ []) c.position_at.ensures
          ∙ mapped_span_more (value_place ks) c.args.positions.now.items c.args.start i c.loop-i.invariant.1,
      omega (arith, c.loop-i.invariant.1),
    )
