use Rattle.std.proofs.Common.{Ok, [], replicate, subst}
use Rattle.arrow_types.specs.Seen.{seen}
use Rattle.arrow_flat.specs.Slots.{null}
use Rattle.arrow_grow_flat.specs.Kinds.{binary_values}
use Rattle.arrow_grow_flat.specs.Values.{GrowsValues, Values}
use Rattle.arrow_grow_flat.proofs.Binaries.{Empty, joined_below, nulls_stand, still_binaries, values_more}
use Rattle.arrow_grow_flat.proofs.JoinedSpans.{empty_texts}
use Rattle.arrow_grow_flat.proofs.binary.GrowingBinariesGrowableValues.extend_nulls.Goals as goal

pub invariant_of-self-2 : goal.invariant_of-self-2
invariant_of-self-2 g c =
    let s = c.self.inside in
    let text = g.K.ViewType.IS_TEXT in
    let n = c.args.additional in
    still_binaries text g.O.Offset.IS_LARGE g.O.Offset.number g.O.Offset.limit g.met.O.SizedOffset.same_limit (seen s.dtype) s.arrays.items s.offsets s.values.items c.self.invariant
    c.extend_empty.new.offsets s.values.items (replicate n []) c.in_ok-extend_empty.ensures.ok (empty_texts text n)

pub returns : goal.returns
returns g c =
    let s = c.self.inside in
    let number = g.O.Offset.number in
    let limit = g.O.Offset.limit in
    let n = c.args.additional in
    let a = c.in_ok-extend_empty.ensures.ok in
    let ps = c.extend_empty.new.offsets in
    subst (λ (v : Values). GrowsValues Empty v (replicate n null) (binary_values number (seen s.dtype) s.arrays.items ps s.values.items) (Ok tt)) c.self.view_is
    (values_more g.K.ViewType.IS_TEXT g.O.Offset.IS_LARGE number limit g.met.O.SizedOffset.same_limit (seen s.dtype) s.arrays.items s.offsets s.values.items c.self.invariant
    (replicate n []) (replicate n null) (nulls_stand n) ps s.values.items a c.offsets_invariant.ensures.few (joined_below number limit ps s.values.items a.follow c.offsets_invariant.ensures.sound))
