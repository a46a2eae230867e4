use Rattle.std.proofs.Common.{◌≡◌, ◌<◌, map, length, Ok, ap, sym, ◌∙◌, subst, arith}
use Rattle.std.proofs.lemmas.List.{length-map}
use Rattle.arrow_types.specs.Seen.{seen}
use Rattle.arrow_layout.specs.Cut.{part}
use Rattle.arrow_layout.specs.Denote.{denote}
use Rattle.arrow_layout.specs.Layouts.{Layout}
use Rattle.arrow_meaning.specs.Nodes.{binary_layout}
use Rattle.arrow_grow_flat.specs.Grown.{layout_at}
use Rattle.arrow_grow_flat.specs.Kinds.{binary_values}
use Rattle.arrow_grow_flat.specs.Spans.{slot_values}
use Rattle.arrow_grow_flat.specs.Values.{GrowsValues, StandFor, Values}
use Rattle.arrow_grow_flat.proofs.Binaries.{Empty, joined_below, refused_values, run_stands, value_slots, values_more}
use Rattle.arrow_grow_flat.proofs.Making.{layout_map}
use Rattle.arrow_grow_flat.proofs.binary.GrowingBinariesGrowableValues.extend.Goals as goal

pub returns-in_err-extend_slots : goal.returns-in_err-extend_slots
returns-in_err-extend_slots g c =
    let s = c.self.inside in
    let number = g.O.Offset.number in
    let ts = s.arrays.items in
    let i = c.args.index in
    let o = c.args.start in
    let n = c.args.len in
    let a = c.index-source.result.now in
    let e = c.in_err-extend_slots.field-0.0 in
    let inside : i < length (map (binary_layout number) ts) = subst (λ (v : Values). i < length v.arrays) (sym c.self.view_is) c.requires.named in
    let named : i < length ts = omega (arith, inside, length-map ts (binary_layout number)) in
    let is : layout_at (map (binary_layout number) ts) i ≡ binary_layout number a = sym (ap (binary_layout number) c.index-source.ensures ∙ layout_map (binary_layout number) ts i a named) in
    let stand = subst (λ (l : Layout). StandFor Empty (value_slots (part o n (slot_values number a))) (part o n (denote l))) (sym is) (run_stands number a o n) in
    subst (λ (v : Values). GrowsValues Empty v (part o n (denote (layout_at v.arrays i))) (binary_values number (seen s.dtype) ts c.extend_slots.new.offsets c.extend_slots.new.values.items) c.from_residual.result) c.self.view_is
    (refused_values g.K.ViewType.IS_TEXT g.O.Offset.IS_LARGE number g.O.Offset.limit g.met.O.SizedOffset.same_limit (seen s.dtype) ts s.offsets s.values.items c.self.invariant
    (part o n (slot_values number a)) (part o n (denote (layout_at (map (binary_layout number) ts) i))) stand c.extend_slots.new.offsets c.extend_slots.new.values.items e c.from_residual.result c.from_residual.ensures.1
    c.in_err-extend_slots.ensures.same_offsets c.in_err-extend_slots.ensures.same_values c.in_err-extend_slots.ensures.refused)

pub returns : goal.returns
returns g c =
    let s = c.self.inside in
    let number = g.O.Offset.number in
    let limit = g.O.Offset.limit in
    let ts = s.arrays.items in
    let i = c.args.index in
    let o = c.args.start in
    let n = c.args.len in
    let a = c.index-source.result.now in
    let ps = c.extend_slots.new.offsets in
    let cs = c.extend_slots.new.values.items in
    let more = c.in_ok-extend_slots.ensures.ok in
    let inside : i < length (map (binary_layout number) ts) = subst (λ (v : Values). i < length v.arrays) (sym c.self.view_is) c.requires.named in
    let named : i < length ts = omega (arith, inside, length-map ts (binary_layout number)) in
    let is : layout_at (map (binary_layout number) ts) i ≡ binary_layout number a = sym (ap (binary_layout number) c.index-source.ensures ∙ layout_map (binary_layout number) ts i a named) in
    let stand = subst (λ (l : Layout). StandFor Empty (value_slots (part o n (slot_values number a))) (part o n (denote l))) (sym is) (run_stands number a o n) in
    subst (λ (v : Values). GrowsValues Empty v (part o n (denote (layout_at v.arrays i))) (binary_values number (seen s.dtype) ts ps cs) (Ok tt)) c.self.view_is
    (values_more g.K.ViewType.IS_TEXT g.O.Offset.IS_LARGE number limit g.met.O.SizedOffset.same_limit (seen s.dtype) ts s.offsets s.values.items c.self.invariant
    (part o n (slot_values number a)) (part o n (denote (layout_at (map (binary_layout number) ts) i))) stand ps cs more c.offsets_invariant.ensures.few
    (joined_below number limit ps cs more.follow c.offsets_invariant.ensures.sound))
