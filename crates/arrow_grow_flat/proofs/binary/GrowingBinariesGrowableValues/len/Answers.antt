use Rattle.std.proofs.Common.{length, ap, sym, ◌∙◌}
use Rattle.arrow_grow_flat.specs.Values.{Values}
use Rattle.arrow_grow_flat.proofs.Binaries.{count_values, pred_of}
use Rattle.arrow_grow_flat.proofs.binary.GrowingBinariesGrowableValues.len.Goals as goal

pub returns : goal.returns
returns g c =
    let s = c.self.inside in
    pred_of c.len_proxy.result (length s.offsets) c.len_proxy.ensures.slots ∙ sym (count_values g.O.Offset.number s.offsets s.values.items) ∙ ap (λ (v : Values). length v.slots) c.self.view_is
