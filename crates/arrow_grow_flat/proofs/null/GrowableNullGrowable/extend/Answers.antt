use Rattle.std.proofs.Common.{List, sym, subst}
use Rattle.arrow_flat.specs.Slots.{Slot}
use Rattle.arrow_grow_flat.specs.Grown.{Grows}
use Rattle.arrow_grow_flat.proofs.NullRuns.{slots_taken}
use Rattle.arrow_grow_flat.proofs.null.GrowableNullGrowable.extend.Goals as goal

pub returns : goal.returns
returns c =
    let a = c.args.self.now in
    subst (λ (xs : List Slot). Grows a xs c.grow.new.self c.grow.result) (sym (slots_taken a c.sound.ensures.stored c.args._index c.args._start c.args.len c.requires)) c.grow.ensures
