use Rattle.std.proofs.Common.{◌+◌, ◌<◌, ◌≤◌, ◌++◌, map, length, Ok, ap, sym, ◌∙◌, subst, arith}
use Rattle.std.proofs.lemmas.List.{length-map}
use Rattle.arrow_types.specs.Seen.{seen}
use Rattle.arrow_layout.specs.Cut.{part}
use Rattle.arrow_layout.specs.Denote.{denote}
use Rattle.arrow_layout.specs.Layouts.{length_of}
use Rattle.arrow_meaning.specs.Nodes.{fixed_size_binary_layout}
use Rattle.arrow_grow_flat.specs.Grown.{layout_at}
use Rattle.arrow_grow_flat.specs.Kinds.{sized_values}
use Rattle.arrow_grow_flat.specs.Values.{GrowsValues, Values}
use Rattle.arrow_grow_flat.proofs.FixedSizes.{run_more, run_multiple}
use Rattle.arrow_grow_flat.proofs.Making.{layout_map}
use Rattle.arrow_grow_flat.proofs.Numbers.{Any}
use Rattle.arrow_grow_flat.proofs.fixed_size_binary.GrowingFixedSizeBinariesGrowableValues.extend.Goals as goal

pub invariant_of-self-2 : goal.invariant_of-self-2
invariant_of-self-2 c =
    let s = c.self.inside in
    let ts = s.arrays.items in
    let i = c.args.index in
    let a = c.index.result.now in
    let inside : i < length (map fixed_size_binary_layout ts) = subst (λ (v : Values). i < length v.arrays) (sym c.self.view_is) c.requires.named in
    let named : i < length ts = omega (arith, inside, length-map ts fixed_size_binary_layout) in
    run_multiple (seen s.dtype) ts s.size s.values.items c.self.invariant c.extend_from_slice.new.self.items a i c.args.start c.args.len
    (sym (ap fixed_size_binary_layout c.index.ensures ∙ layout_map fixed_size_binary_layout ts i a named)) inside
    (subst (λ (v : Values). c.args.start + c.args.len ≤ length_of (layout_at v.arrays i)) (sym c.self.view_is) c.requires.reached)
    (c.in_ok-extend_from_slice.ensures.items ∙ ap (λ xs. s.values.items ++ xs) c.bytes_of_slots.ensures)

pub returns : goal.returns
returns c =
    let s = c.self.inside in
    let ts = s.arrays.items in
    let i = c.args.index in
    let o = c.args.start in
    let n = c.args.len in
    let a = c.index.result.now in
    let ws = c.extend_from_slice.new.self.items in
    let inside : i < length (map fixed_size_binary_layout ts) = subst (λ (v : Values). i < length v.arrays) (sym c.self.view_is) c.requires.named in
    let named : i < length ts = omega (arith, inside, length-map ts fixed_size_binary_layout) in
    subst (λ (v : Values). GrowsValues Any v (part o n (denote (layout_at v.arrays i))) (sized_values (seen s.dtype) ts s.size ws) (Ok tt)) c.self.view_is
    (run_more (seen s.dtype) ts s.size s.values.items c.self.invariant ws a i o n
    (sym (ap fixed_size_binary_layout c.index.ensures ∙ layout_map fixed_size_binary_layout ts i a named)) inside
    (subst (λ (v : Values). o + n ≤ length_of (layout_at v.arrays i)) (sym c.self.view_is) c.requires.reached)
    (c.in_ok-extend_from_slice.ensures.items ∙ ap (λ xs. s.values.items ++ xs) c.bytes_of_slots.ensures)
    (let w = c.extend_from_slice.new.self in omega (arith, w.ok.0, w.ok.1)))
