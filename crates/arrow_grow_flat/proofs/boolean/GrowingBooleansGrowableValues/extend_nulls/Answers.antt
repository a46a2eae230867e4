use Rattle.std.proofs.Common.{◌+◌, Ok, Err, replicate, subst, arith}
use Rattle.arrow_types.specs.Seen.{seen}
use Rattle.arrow_types.specs.declared.error.GrowError.TheVariants as error
use Rattle.arrow_flat.specs.Slots.{null}
use Rattle.arrow_grow_flat.specs.Kinds.{bit_values}
use Rattle.arrow_grow_flat.specs.Values.{GrowsValues, Values}
use Rattle.arrow_grow_flat.proofs.BitValues.{nulls_fit, nulls_full}
use Rattle.arrow_grow_flat.proofs.Counts.{at_least, none_where, some_where}
use Rattle.arrow_grow_flat.proofs.Numbers.{Any}
use Rattle.arrow_grow_flat.proofs.boolean.GrowingBooleansGrowableValues.extend_nulls.Goals as goal

pub returns-then-is_none : goal.returns-then-is_none
returns-then-is_none c =
    let s = c.self.inside in
    let n = c.args.additional in
    let whole = c.len.result + n in
    subst (λ (v : Values). GrowsValues Any v (replicate n null) v (Err error.Overflow)) c.self.view_is
    (nulls_full (seen s.dtype) s.arrays.items s.values c.self.invariant.stored n
    (omega (arith, c.len.ensures, at_least whole (none_where c.checked_add.result whole c.checked_add.ensures c.if-is_none.ensures))))

pub returns : goal.returns
returns c =
    let s = c.self.inside in
    let n = c.args.additional in
    let whole = c.len.result + n in
    let ws = c.extend_constant.new.self in
    subst (λ (v : Values). GrowsValues Any v (replicate n null) (bit_values (seen s.dtype) s.arrays.items ws) (Ok tt)) c.self.view_is
    (nulls_fit (seen s.dtype) s.arrays.items s.values c.self.invariant.stored ws n c.in_ok-extend_constant.ensures.ok
    (omega (arith, c.len.ensures, some_where c.checked_add.result whole c.checked_add.ensures c.if-is_none.ensures)))
