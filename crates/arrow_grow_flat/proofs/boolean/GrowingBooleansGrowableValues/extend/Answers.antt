use Rattle.std.proofs.Common.{◌≡◌, ◌+◌, ◌<◌, ◌≤◌, ◌++◌, map, length, Ok, Err, ap, sym, ◌∙◌, subst, arith}
use Rattle.std.proofs.lemmas.List.{length-map}
use Rattle.arrow_buffers.specs.Bits.{Bits}
use Rattle.arrow_types.specs.Seen.{seen}
use Rattle.arrow_types.specs.declared.error.GrowError.TheVariants as error
use Rattle.arrow_layout.specs.Cut.{part}
use Rattle.arrow_layout.specs.Denote.{denote}
use Rattle.arrow_layout.specs.Layouts.{length_of}
use Rattle.arrow_meaning.specs.Nodes.{boolean_layout}
use Rattle.arrow_grow_flat.specs.Grown.{layout_at}
use Rattle.arrow_grow_flat.specs.Kinds.{bit_values}
use Rattle.arrow_grow_flat.specs.Values.{GrowsValues, Values}
use Rattle.arrow_grow_flat.proofs.BitValues.{run_fits, run_full}
use Rattle.arrow_grow_flat.proofs.Counts.{at_least, none_where, some_where}
use Rattle.arrow_grow_flat.proofs.Making.{layout_map}
use Rattle.arrow_grow_flat.proofs.Numbers.{Any}
use Rattle.arrow_grow_flat.proofs.boolean.GrowingBooleansGrowableValues.extend.Goals as goal

pub returns-then-is_none : goal.returns-then-is_none
returns-then-is_none c =
    let s = c.self.inside in
    let ts = s.arrays.items in
    let n = c.args.len in
    let whole = c.len.result + n in
    subst (λ (v : Values). GrowsValues Any v (part c.args.start n (denote (layout_at v.arrays c.args.index))) v (Err error.Overflow)) c.self.view_is
    (run_full (seen s.dtype) ts s.values c.self.invariant.stored c.args.index c.args.start n c.self.invariant.sound
    (subst (λ (v : Values). c.args.index < length v.arrays) (sym c.self.view_is) c.requires.named)
    (subst (λ (v : Values). c.args.start + n ≤ length_of (layout_at v.arrays c.args.index)) (sym c.self.view_is) c.requires.reached)
    (omega (arith, c.len.ensures, at_least whole (none_where c.checked_add.result whole c.checked_add.ensures c.if-is_none.ensures))))

pub returns : goal.returns
returns c =
    let s = c.self.inside in
    let ts = s.arrays.items in
    let i = c.args.index in
    let o = c.args.start in
    let n = c.args.len in
    let a = c.index.result.now in
    let whole = c.len.result + n in
    let ws = c.extend_from_range.new.self in
    let inside : i < length (map boolean_layout ts) = subst (λ (v : Values). i < length v.arrays) (sym c.self.view_is) c.requires.named in
    let named : i < length ts = omega (arith, inside, length-map ts boolean_layout) in
    let is : layout_at (map boolean_layout ts) i ≡ boolean_layout a = sym (ap boolean_layout c.index.ensures ∙ layout_map boolean_layout ts i a named) in
    subst (λ (v : Values). GrowsValues Any v (part o n (denote (layout_at v.arrays i))) (bit_values (seen s.dtype) ts ws) (Ok tt)) c.self.view_is
    (run_fits (seen s.dtype) ts s.values c.self.invariant.stored ws a i o n is
    (c.in_ok-extend_from_range.ensures.ok ∙ ap (λ (b : Bits). s.values ++ part o n b.bits) c.values.ensures)
    (subst (λ (v : Values). o + n ≤ length_of (layout_at v.arrays i)) (sym c.self.view_is) c.requires.reached)
    (omega (arith, c.len.ensures, some_where c.checked_add.result whole c.checked_add.ensures c.if-is_none.ensures)))
