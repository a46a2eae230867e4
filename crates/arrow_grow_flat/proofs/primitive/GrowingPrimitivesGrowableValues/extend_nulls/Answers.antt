use Rattle.std.proofs.Common.{◌+◌, ◌-◌, Ok, Err, replicate, vec_len, subst, arith}
use Rattle.arrow_types.specs.Seen.{seen}
use Rattle.arrow_types.specs.declared.error.GrowError.TheVariants as error
use Rattle.arrow_flat.specs.Slots.{null}
use Rattle.arrow_grow_flat.specs.Kinds.{number_values}
use Rattle.arrow_grow_flat.specs.Values.{GrowsValues, Values}
use Rattle.arrow_grow_flat.proofs.Counts.{at_least}
use Rattle.arrow_grow_flat.proofs.Numbers.{Any, nulls_full, nulls_resized}
use Rattle.arrow_grow_flat.proofs.primitive.GrowingPrimitivesGrowableValues.extend_nulls.Goals as goal

pub returns-in_default : goal.returns-in_default
returns-in_default g c =
    let s = c.self.inside in
    let n = c.args.additional in
    subst (λ (v : Values). GrowsValues Any v (replicate n null) v (Err error.Overflow)) c.self.view_is
    (nulls_full g.T.NativeType.parts g.T.NativeType.PRIMITIVE (seen s.dtype) s.arrays.items s.values.items c.self.invariant.stored n
    (omega (arith, c.len.ensures, s.values.ok.0, at_least (c.len.result + n) c.in_default.ensures)))

pub returns : goal.returns
returns g c =
    let parts = g.T.NativeType.parts in
    let s = c.self.inside in
    let n = c.args.additional in
    let m = c.in-Some.length in
    let ws = c.resize.new.self.items in
    let l = s.values.ok.0 in
    let t = c.in-Some.ensures in
    subst (λ (v : Values). GrowsValues Any v (replicate n null) (number_values parts (seen s.dtype) s.arrays.items ws) (Ok tt)) c.self.view_is
    (nulls_resized parts g.T.NativeType.PRIMITIVE (seen s.dtype) s.arrays.items s.values.items c.self.invariant.stored ws c.zero.result m (m - vec_len s.values) n
    c.in_ok-resize.ensures.items (omega (arith, l, t.1, c.len.ensures)) (omega (arith, t.1, c.len.ensures)) (omega (arith, l, t.0, c.len.ensures)))
