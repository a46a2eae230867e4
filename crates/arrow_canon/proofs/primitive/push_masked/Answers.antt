use Rattle.std.specs.Prelude.{unwrap_or}
use Rattle.std.proofs.Common.{◌++◌, ◌-◌, ◌∷◌, [], ap, arith, ◌∙◌}
use Rattle.arrow_flat.specs.Primitives.{slots}
use Rattle.arrow_canon.specs.Picks.{pick, picks, span}
use Rattle.arrow_canon.specs.Steps.{values_or}
use Rattle.arrow_canon.proofs.Places.{mapped_span_more}
use Rattle.arrow_canon.proofs.Primitives.{value_next}
use Rattle.arrow_canon.proofs.primitive.push_masked.Goals as goal

pub loop-i-preserved : goal.loop-i-preserved
loop-i-preserved g c =
    let a = c.args.array.now in
    let d = g.T.NativeType.zero in
    let i = c.loop-i.i in (
      c.in_ok-push.ensures.items
          ∙ ap (λ ys. ys ++ c.unwrap_or.result ∷ []) c.loop-i.invariant.0
          ∙ ap (λ y. (c.args.values.now.items ++ picks d (values_or d (slots a)) (span c.args.start (i - c.args.start))) ++ y ∷ [])
          (c.unwrap_or.ensures ∙ ap (λ z. unwrap_or c.get.result z) c.zero.ensures ∙ value_next d (slots a) i c.get.result c.get.ensures)
          ∙ mapped_span_more (pick d (values_or d (slots a))) c.args.values.now.items c.args.start i c.loop-i.invariant.1,
      omega (arith, c.loop-i.invariant.1),
    )
