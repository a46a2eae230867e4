use Rattle.std.proofs.Common.{◌≡◌, false, arith, refl, sym, ◌∙◌, map}
use Rattle.std.specs.Option.{option_copied}
use Rattle.std.proofs.lemmas.Bool.{false≢true}
use Rattle.std.proofs.lemmas.List.{length-map}
use Rattle.arrow_types.specs.Select.{nat_of}
use Rattle.arrow_flat.specs.Primitives.{valid_at}
use Rattle.arrow_canonical.specs.OwnForm.{IsEmptyAt}
use Rattle.arrow_canonical.proofs.Nulls.{each_next, has_bit}
use Rattle.arrow_canonical.proofs.binary.nulls_are_empty.Goals as goal

pub is_set_or_empty-requires-clause-bit : goal.is_set_or_empty-requires-clause-bit
is_set_or_empty-requires-clause-bit g c =
    has_bit (option_copied c.args.validity) _ c.loop-i.i c.requires (omega arith)

pub loop-i-preserved : goal.loop-i-preserved
loop-i-preserved g c =
    let os = map nat_of (map g.O.Offset.number c.args.offsets.now) in
    each_next (λ k. valid_at (option_copied c.args.validity) k ≡ false → IsEmptyAt os k) c.loop-i.i c.loop-i.invariant (c.is_set_or_empty.ensures.0 c.if-not-is_set_or_empty.false)

pub returns-then-not-is_set_or_empty : goal.returns-then-not-is_set_or_empty
returns-then-not-is_set_or_empty g c =
    let zs = map g.O.Offset.number c.args.offsets.now in
    let long = length-map zs nat_of in
    let long' = length-map c.args.offsets.now g.O.Offset.number in (
      λ t. absurd (false≢true t),
      λ h. sym c.if-not-is_set_or_empty.true ∙ c.is_set_or_empty.ensures.1 (h c.loop-i.i (omega (arith, long, long', c.loop-i-test.true, c.loop-i.auto.i-end, c.len_proxy-i-end.ensures.slots))),
    )

pub returns : goal.returns
returns g c =
    let zs = map g.O.Offset.number c.args.offsets.now in
    let long = length-map zs nat_of in
    let long' = length-map c.args.offsets.now g.O.Offset.number in
    (λ t. λ i w v. c.loop-i.invariant i (omega (arith, w, long, long', c.loop-i-test.false, c.loop-i.auto.i-end, c.len_proxy-i-end.ensures.slots)) v, λ h. refl)
