use Rattle.std.proofs.Common.{subst}
use Rattle.arrow_types.specs.Seen.{seen}
use Rattle.arrow_bytes.specs.Binaries.{IsSound}
use Rattle.arrow_bytes.proofs.Carried.{stored_carried}
use Rattle.arrow_bytes.proofs.offset_array.OffsetArray.invariant.Goals as goal

pub returns-clause-sound : goal.returns-clause-sound
returns-clause-sound g c =
    let text = g.K.ViewType.IS_TEXT in
    let large = g.O.Offset.IS_LARGE in
    let kept = c.self.invariant in
    subst (λ a. IsSound text large g.O.Offset.number a) c.self.view_is (record {
      array = record {
        fits = kept.laid_out.fits;
        led = c.invariant.ensures;
        stored = kept.laid_out.stored;
        carried = stored_carried text large (seen c.self.inside.dtype) kept.laid_out.stored;
      };
      within = kept.within;
      texts = kept.texts;
    })
