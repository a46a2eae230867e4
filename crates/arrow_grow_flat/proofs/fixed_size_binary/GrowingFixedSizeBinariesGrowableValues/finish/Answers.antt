use Rattle.std.proofs.Common.{◌≡◌, ◌/◌, ℕ, List, length, ap, ap₂, sym, ◌∙◌, subst}
use Rattle.std.specs.Prelude.{unwrap_or}
use Rattle.arrow_types.specs.Seen.{seen}
use Rattle.arrow_bytes.specs.FixedSizeBinaries.{size_or_zero}
use Rattle.arrow_flat.specs.Primitives.{MaskHasLength}
use Rattle.arrow_grow_flat.specs.Values.{Values}
use Rattle.arrow_grow_flat.proofs.FixedSizes.{slots_of_values}
use Rattle.arrow_grow_flat.proofs.fixed_size_binary.GrowingFixedSizeBinariesGrowableValues.finish.Goals as goal

pub new-requires-2-clause-fits : goal.new-requires-2-clause-fits
new-requires-2-clause-fits c =
    let s = c.self.inside in
    let values : c.in_ok-values.values ≡ s.values.items = c.in_ok-values.ensures ∙ ap (λ v. v.items) c.replace-values.ensures.value in
    let size : size_or_zero (seen c.in_ok-dtype.dtype) ≡ s.size = ap (λ d. size_or_zero (seen d)) c.in_ok-dtype.ensures ∙ ap (λ o. unwrap_or o 0) c.self.invariant.sized in
    let count : length c.args.self.now.slots ≡ length c.in_ok-values.values / size_or_zero (seen c.in_ok-dtype.dtype) =
    sym (ap (λ (v : Values). length v.slots) c.self.view_is) ∙ slots_of_values s.size s.values.items
    ∙ ap₂ (λ (xs : List ℕ) j. length xs / j) (sym values) (sym size) in
    subst (MaskHasLength c.args.validity) count c.requires
