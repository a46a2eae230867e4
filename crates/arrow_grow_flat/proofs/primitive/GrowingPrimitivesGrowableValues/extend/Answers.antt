use Rattle.std.proofs.Common.{◌≡◌, ◌+◌, ◌-◌, ◌<◌, ◌++◌, map, length, take, drop, slice_range, Ok, ap, sym, ◌∙◌, subst, arith}
use Rattle.std.proofs.lemmas.List.{length-map}
use Rattle.arrow_types.specs.Seen.{seen}
use Rattle.arrow_layout.specs.Cut.{part}
use Rattle.arrow_layout.specs.Denote.{denote}
use Rattle.arrow_meaning.specs.Nodes.{primitive_layout}
use Rattle.arrow_grow_flat.specs.Grown.{layout_at}
use Rattle.arrow_grow_flat.specs.Kinds.{number_values}
use Rattle.arrow_grow_flat.specs.Values.{GrowsValues, Values}
use Rattle.arrow_grow_flat.proofs.Making.{layout_map}
use Rattle.arrow_grow_flat.proofs.Numbers.{Any, run_more}
use Rattle.arrow_grow_flat.proofs.primitive.GrowingPrimitivesGrowableValues.extend.Goals as goal

pub returns : goal.returns
returns g c =
    let parts = g.T.NativeType.parts in
    let s = c.self.inside in
    let ts = s.arrays.items in
    let i = c.args.index in
    let o = c.args.start in
    let n = c.args.len in
    let a = c.index.result.now in
    let ws = c.extend_from_slice.new.self in
    let inside : i < length (map (primitive_layout parts) ts) = subst (λ (v : Values). i < length v.arrays) (sym c.self.view_is) c.requires.named in
    let named : i < length ts = omega (arith, inside, length-map ts (primitive_layout parts)) in
    let is : layout_at (map (primitive_layout parts) ts) i ≡ primitive_layout parts a =
    sym (ap (primitive_layout parts) c.index.ensures ∙ layout_map (primitive_layout parts) ts i a named) in
    let run : o + n - o ≡ n = omega arith in
    subst (λ (v : Values). GrowsValues Any v (part o n (denote (layout_at v.arrays i))) (number_values parts (seen s.dtype) ts ws.items) (Ok tt)) c.self.view_is
    (run_more parts g.T.NativeType.PRIMITIVE (seen s.dtype) ts s.values.items c.self.invariant.stored ws.items a i o n is
    (c.in_ok-extend_from_slice.ensures.items
    ∙ ap (λ xs. s.values.items ++ slice_range xs o (o + n)) (c.as_slice-source.ensures ∙ c.values.ensures)
    ∙ ap (λ k. s.values.items ++ take k (drop o a.values)) run)
    (omega (arith, ws.ok.0, ws.ok.1)))
