use Rattle.std.proofs.Common.{sym, ◌∙◌}
use Rattle.arrow_grow_flat.proofs.Steps.{source_length}
use Rattle.arrow_grow_flat.proofs.flat.FlatGrowableGrowable.array_len.Goals as goal

pub returns : goal.returns
returns g c =
    let s = c.self.inside in
    c.array_len.ensures
    ∙ sym (source_length g.V.GrowableValues.blank (g.V.GrowableValues.seen s.values) s.validity s.failed c.args.self.now c.self.view_is c.args.index c.invariant.ensures c.requires)
