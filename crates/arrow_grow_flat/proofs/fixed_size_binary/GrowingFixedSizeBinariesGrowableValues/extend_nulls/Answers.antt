use Rattle.std.proofs.Common.{◌+◌, ◌-◌, ◌*◌, Ok, Err, replicate, vec_len, subst, arith}
use Rattle.arrow_types.specs.Seen.{seen}
use Rattle.arrow_types.specs.declared.error.GrowError.TheVariants as error
use Rattle.arrow_flat.specs.Slots.{null}
use Rattle.arrow_grow_flat.specs.Kinds.{sized_values}
use Rattle.arrow_grow_flat.specs.Values.{GrowsValues, Values}
use Rattle.arrow_grow_flat.proofs.Counts.{at_least}
use Rattle.arrow_grow_flat.proofs.FixedSizes.{nulls_full, nulls_more, nulls_multiple}
use Rattle.arrow_grow_flat.proofs.Numbers.{Any}
use Rattle.arrow_grow_flat.proofs.fixed_size_binary.GrowingFixedSizeBinariesGrowableValues.extend_nulls.Goals as goal

pub returns-in_default : goal.returns-in_default
returns-in_default c =
    let s = c.self.inside in
    let n = c.args.additional in
    subst (λ (v : Values). GrowsValues Any v (replicate n null) v (Err error.Overflow)) c.self.view_is
    (nulls_full (seen s.dtype) s.arrays.items s.size s.values.items c.self.invariant n (omega (arith, at_least (n * s.size) c.in_default.ensures)))

pub returns-in_default-checked_add : goal.returns-in_default-checked_add
returns-in_default-checked_add c =
    let s = c.self.inside in
    let n = c.args.additional in
    subst (λ (v : Values). GrowsValues Any v (replicate n null) v (Err error.Overflow)) c.self.view_is
    (nulls_full (seen s.dtype) s.arrays.items s.size s.values.items c.self.invariant n
    (omega (arith, c.len.ensures, s.values.ok.0, c.in-Some.ensures.0, at_least (c.len.result + c.in-Some.bytes) c.in_default-checked_add.ensures)))

pub invariant_of-self-2 : goal.invariant_of-self-2
invariant_of-self-2 c =
    let s = c.self.inside in
    let m = c.in-Some-checked_add.length in
    let l = s.values.ok.0 in
    let t = c.in-Some-checked_add.ensures in
    let u = c.in-Some.ensures in
    nulls_multiple (seen s.dtype) s.arrays.items s.size s.values.items c.self.invariant c.resize.new.self.items m (m - vec_len s.values) c.args.additional
    c.in_ok-resize.ensures.items (omega (arith, l, t.0, c.len.ensures)) (omega (arith, t.0, u.0, c.len.ensures))

pub returns : goal.returns
returns c =
    let s = c.self.inside in
    let n = c.args.additional in
    let m = c.in-Some-checked_add.length in
    let w = c.resize.new.self in
    let l = s.values.ok.0 in
    let t = c.in-Some-checked_add.ensures in
    let u = c.in-Some.ensures in
    subst (λ (v : Values). GrowsValues Any v (replicate n null) (sized_values (seen s.dtype) s.arrays.items s.size w.items) (Ok tt)) c.self.view_is
    (nulls_more (seen s.dtype) s.arrays.items s.size s.values.items c.self.invariant w.items m (m - vec_len s.values) n
    c.in_ok-resize.ensures.items (omega (arith, l, t.0, c.len.ensures)) (omega (arith, t.0, u.0, c.len.ensures)) (omega (arith, w.ok.0, w.ok.1)))
