use Rattle.std.proofs.Common.{ap, subst, sym, ◌∙◌}
use Rattle.arrow_layout.specs.Layouts.{length_of}
use Rattle.arrow_layout.specs.Masks.{KeysInRange, with_mask}
use Rattle.arrow_layout.specs.WellFormed.{WellFormed}
use Rattle.arrow_layout.proofs.Remasked.{well_formed-with_mask}
use Rattle.arrow_meaning.proofs.NodeParts.{mask_fits_led}
use Rattle.arrow_meaning.proofs.array.ArrayRef.with_validity.Goals as goal

pub from_sound-requires-clause-sound : goal.from_sound-requires-clause-sound
from_sound-requires-clause-sound c =
    let m = c.args.validity in
    let l = c.args.self.now in
    let e = c.set_validity.ensures.same ∙ ap (with_mask m) (c.in_ok-masked.ensures.same ∙ c.node-node.ensures.same) in
    let keys = subst (KeysInRange m) c.node-node.ensures.same c.in_ok-check_mask.ensures.ok.1 in
    subst WellFormed (sym e) (well_formed-with_mask m l c.node-node.ensures.sound (mask_fits_led m (length_of l) c.requires c.invariant.ensures) keys)
