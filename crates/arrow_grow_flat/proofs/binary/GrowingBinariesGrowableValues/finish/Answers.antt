use Rattle.std.proofs.Common.{◌≡◌, length, map, ap, sym, ◌∙◌, subst, arith}
use Rattle.std.specs.Prelude.{pred}
use Rattle.arrow_buffers.specs.Offsets.{end_of}
use Rattle.arrow_types.specs.Seen.{seen}
use Rattle.arrow_flat.specs.Primitives.{MaskHasLength}
use Rattle.arrow_meaning.specs.Nodes.{binary_layout}
use Rattle.arrow_grow_flat.specs.Values.{IsOf, Values}
use Rattle.arrow_grow_flat.proofs.Binaries.{Empty, count_values, made}
use Rattle.arrow_grow_flat.proofs.JoinedSpans.{end_is}
use Rattle.arrow_grow_flat.proofs.binary.GrowingBinariesGrowableValues.finish.Goals as goal

pub new-requires-3-clause-within : goal.new-requires-3-clause-within
new-requires-3-clause-within g c =
    let s = c.self.inside in
    let offsets : c.in_ok-offsets.offsets ≡ s.offsets = c.in_ok-offsets.ensures ∙ c.replace-offsets.ensures.value in
    let values : c.in_ok-values.values ≡ s.values.items = c.in_ok-values.ensures ∙ ap (λ v. v.items) c.replace-values.ensures.value in
    omega (arith, ap (λ os. end_of (map g.O.Offset.number os)) offsets, ap length values, end_is g.O.Offset.number s.offsets s.values.items c.self.invariant.follow)

pub new-requires-3-clause-fits : goal.new-requires-3-clause-fits
new-requires-3-clause-fits g c =
    let s = c.self.inside in
    let offsets : c.in_ok-offsets.offsets ≡ s.offsets = c.in_ok-offsets.ensures ∙ c.replace-offsets.ensures.value in
    subst (MaskHasLength c.args.validity)
    (sym (ap (λ (v : Values). length v.slots) c.self.view_is) ∙ count_values g.O.Offset.number s.offsets s.values.items ∙ sym (ap (λ os. pred (length os)) offsets)) c.requires

pub returns-clause-made : goal.returns-clause-made
returns-clause-made g c =
    let s = c.self.inside in
    let b = c.new-3.result in
    let offsets : c.in_ok-offsets.offsets ≡ s.offsets = c.in_ok-offsets.ensures ∙ c.replace-offsets.ensures.value in
    let values : c.in_ok-values.values ≡ s.values.items = c.in_ok-values.ensures ∙ ap (λ v. v.items) c.replace-values.ensures.value in
    subst (λ (v : Values). IsOf Empty c.args.validity v (binary_layout g.O.Offset.number b)) c.self.view_is
    (made g.O.Offset.number (seen s.dtype) s.arrays.items s.offsets s.values.items c.args.validity b
    (ap (λ x. seen x.dtype) c.new-3.ensures ∙ ap seen c.in_ok-dtype.ensures) (ap (λ x. x.offsets) c.new-3.ensures ∙ offsets) (ap (λ x. x.values) c.new-3.ensures ∙ values) (ap (λ x. x.mask) c.new-3.ensures))
