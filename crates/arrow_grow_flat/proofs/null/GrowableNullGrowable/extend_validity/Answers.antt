use Rattle.std.proofs.Common.{List, sym, subst}
use Rattle.arrow_flat.specs.Slots.{Slot}
use Rattle.arrow_grow_flat.specs.Grown.{Grows}
use Rattle.arrow_grow_flat.proofs.NullRuns.{slots_filled}
use Rattle.arrow_grow_flat.proofs.null.GrowableNullGrowable.extend_validity.Goals as goal

pub returns : goal.returns
returns c =
    let a = c.args.self.now in
    subst (λ (xs : List Slot). Grows a xs c.grow.new.self c.grow.result) (sym (slots_filled a c.sound.ensures.stored c.args.additional)) c.grow.ensures
