use Rattle.std.proofs.Common.{◌≡◌, ◌/◌, length, ap, sym, ◌∙◌, arith}
use Rattle.arrow_grow_flat.specs.Values.{Values}
use Rattle.arrow_grow_flat.proofs.FixedSizes.{slots_of_values}
use Rattle.arrow_grow_flat.proofs.fixed_size_binary.GrowingFixedSizeBinariesGrowableValues.len.Goals as goal

pub returns : goal.returns
returns c =
    let s = c.self.inside in
    let count : c.len.result ≡ length s.values.items = omega (arith, c.len.ensures, s.values.ok.0) in
    ap (λ n. n / s.size) count ∙ sym (slots_of_values s.size s.values.items) ∙ ap (λ (v : Values). length v.slots) c.self.view_is
