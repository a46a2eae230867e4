use Rattle.std.proofs.Common.{sym, ◌∙◌}
use Rattle.arrow_grow_flat.proofs.Steps.{slot_count}
use Rattle.arrow_grow_flat.proofs.flat.FlatGrowableGrowable.len.Goals as goal

pub returns : goal.returns
returns g c alive =
    let s = c.self.inside in
    c.len.ensures ∙ sym (slot_count g.V.GrowableValues.blank (g.V.GrowableValues.seen s.values) s.validity s.failed c.args.self.now c.self.view_is)
