use Rattle.std.proofs.Common.{replicate, sym, subst}
use Rattle.arrow_flat.specs.Slots.{Slot}
use Rattle.arrow_grow_flat.specs.Grown.{Grows}
use Rattle.arrow_grow_flat.proofs.Steps.{fill_null}
use Rattle.arrow_grow_flat.proofs.flat.FlatGrowableGrowable.extend_validity.Goals as goal

pub returns : goal.returns
returns g c =
    subst (λ (x : Slot). Grows c.args.self.now (replicate c.args.additional x) c.extend_nulls.new.self c.extend_nulls.result)
    (sym (fill_null c.args.self.now.dtype c.sound.ensures.form)) c.extend_nulls.ensures
