use Rattle.std.proofs.Common.{◌≡◌, ◌∷◌, [], length, refl, subst, arith}
use Rattle.arrow_types.specs.Seen.{seen}
use Rattle.arrow_flat.specs.Built.{Takes}
use Rattle.arrow_flat.specs.Slots.{bytes}
use Rattle.arrow_views.specs.ViewBytes.{bytes_from}
use Rattle.arrow_push.proofs.MaskedTakes.{takes_grow}
use Rattle.arrow_push_bytes.specs.BuiltSized.{SizedBytes, built_sized}
use Rattle.arrow_push_bytes.proofs.BuiltSized.{took_one_sized, grown_multiple, grown_small, one_multiple}
use Rattle.arrow_push_bytes.proofs.fixed_size_binary.FixedSizeBinaryValuesTryPushRefSliceU8.try_push.Goals as goal
use Rattle.arrow_push_bytes.proofs.fixed_size_binary.FixedSizeBinaryValuesTryPushRefSliceU8.try_push.Goals.{In_ok-extend_from_slice}

pub invariant_of-self : goal.invariant_of-self
invariant_of-self c =
    let now = c.self.inside in
    let kept = c.self.invariant in
    let s : length c.args.item.now ≡ now.size = omega (arith, c.if-item-self.false) in
    record {
      sized = kept.sized;
      positive = kept.positive;
      multiple =
          grown_multiple now.size now.values.items c.args.item.now c.extend_from_slice.new.self.items _ kept.positive kept.multiple
          (one_multiple now.size c.args.item.now kept.positive s) c.extend_from_slice.ensures.items;
      small =
          grown_small now.values.items c.args.item.now c.extend_from_slice.new.self.items _ kept.small
          (bytes_from c.args.item.now (λ i l. omega (arith, c.type_inv.item i))) c.extend_from_slice.ensures.items;
    }

pub invariant_of-self-2 : goal.invariant_of-self-2
invariant_of-self-2 c =
    let now = c.self.inside in
    let kept = c.self.invariant in
    let s : length c.args.item.now ≡ now.size = omega (arith, c.if-item-self.false) in
    record {
      sized = kept.sized;
      positive = kept.positive;
      multiple =
          grown_multiple now.size now.values.items c.args.item.now c.extend_from_slice.new.self.items _ kept.positive kept.multiple
          (one_multiple now.size c.args.item.now kept.positive s) c.extend_from_slice.ensures.items;
      small =
          grown_small now.values.items c.args.item.now c.extend_from_slice.new.self.items _ kept.small
          (bytes_from c.args.item.now (λ i l. omega (arith, c.type_inv.item i))) c.extend_from_slice.ensures.items;
    }

took : (c : In_ok-extend_from_slice)
    → Takes (built_sized c.args.self.now.size (seen c.args.self.now.dtype) c.args.self.now.bytes)
    (built_sized c.self.inside.size (seen c.self.inside.dtype) c.extend_from_slice.new.self.items) (bytes c.args.item.now ∷ [])
took c =
    let now = c.self.inside in
    let kept = c.self.invariant in
    let t = seen now.dtype in
    let s : length c.args.item.now ≡ now.size = omega (arith, c.if-item-self.false) in
    subst (λ (b : SizedBytes). Takes (built_sized b.size (seen b.dtype) b.bytes) (built_sized now.size t c.extend_from_slice.new.self.items) (bytes c.args.item.now ∷ []))
    c.self.view_is
    (took_one_sized now.size t t now.values.items c.args.item.now c.extend_from_slice.new.self.items kept.positive kept.multiple s refl c.in_ok-extend_from_slice.ensures.items)

pub returns-clause-grows : goal.returns-clause-grows
returns-clause-grows c =
    let now = c.args.self.now in
    takes_grow (built_sized now.size (seen now.dtype) now.bytes)
    (built_sized c.self.inside.size (seen c.self.inside.dtype) c.extend_from_slice.new.self.items) (bytes c.args.item.now ∷ []) (took c)

pub returns-clause-pushed : goal.returns-clause-pushed
returns-clause-pushed c = λ w. (bytes c.args.item.now, refl, took c)
