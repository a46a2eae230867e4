use Rattle.std.proofs.Common.{◌≡◌, ◌%◌, ◌++◌, length, map, refl, ap, sym, ◌∙◌, subst}
use Rattle.arrow_types.specs.Seen.{seen}
use Rattle.arrow_flat.specs.Natives.{AreBytes}
use Rattle.arrow_flat.specs.Slots.{bytes}
use Rattle.arrow_flat.specs.Built.{Takes}
use Rattle.arrow_push_bytes.specs.BuiltSized.{SizedBytes, built_sized, sized_strings}
use Rattle.arrow_push_bytes.proofs.BuiltSized.{took_sized, grown_multiple, grown_small, sizes_agree}
use Rattle.arrow_push_bytes.proofs.fixed_size_binary.FixedSizeBinaryValuesValuesBuilder.extend_values.Goals as goal

pub invariant_of-self : goal.invariant_of-self
invariant_of-self c =
    let now = c.self.inside in
    let other = c.other.inside in
    let kept = c.self.invariant in
    let same : other.size ≡ now.size =
    sizes_agree now.dtype other.dtype now.size other.size now.values.items other.values.items c.args.self.now c.args.other.now
    c.self.view_is c.other.view_is c.requires kept.sized c.other.invariant.sized in
    let whole = subst (λ k. length other.values.items % k ≡ 0) same c.other.invariant.multiple in
    record {
      sized = kept.sized;
      positive = kept.positive;
      multiple =
          grown_multiple now.size now.values.items c.as_slice.result.now c.extend_from_slice.new.self.items _ kept.positive kept.multiple
          (ap (λ xs. length xs % now.size) c.as_slice.ensures.value ∙ whole) c.extend_from_slice.ensures.items;
      small =
          grown_small now.values.items c.as_slice.result.now c.extend_from_slice.new.self.items _ kept.small
          (subst AreBytes (sym c.as_slice.ensures.value) c.other.invariant.small) c.extend_from_slice.ensures.items;
    }

pub invariant_of-self-2 : goal.invariant_of-self-2
invariant_of-self-2 c =
    let now = c.self.inside in
    let other = c.other.inside in
    let kept = c.self.invariant in
    let same : other.size ≡ now.size =
    sizes_agree now.dtype other.dtype now.size other.size now.values.items other.values.items c.args.self.now c.args.other.now
    c.self.view_is c.other.view_is c.requires kept.sized c.other.invariant.sized in
    let whole = subst (λ k. length other.values.items % k ≡ 0) same c.other.invariant.multiple in
    record {
      sized = kept.sized;
      positive = kept.positive;
      multiple =
          grown_multiple now.size now.values.items c.as_slice.result.now c.extend_from_slice.new.self.items _ kept.positive kept.multiple
          (ap (λ xs. length xs % now.size) c.as_slice.ensures.value ∙ whole) c.extend_from_slice.ensures.items;
      small =
          grown_small now.values.items c.as_slice.result.now c.extend_from_slice.new.self.items _ kept.small
          (subst AreBytes (sym c.as_slice.ensures.value) c.other.invariant.small) c.extend_from_slice.ensures.items;
    }

pub returns : goal.returns
returns c =
    let now = c.self.inside in
    let other = c.other.inside in
    let kept = c.self.invariant in
    let t = seen now.dtype in
    let old = c.args.self.now in
    let more = built_sized now.size t c.extend_from_slice.new.self.items in
    let same : other.size ≡ now.size =
    sizes_agree now.dtype other.dtype now.size other.size now.values.items other.values.items old c.args.other.now
    c.self.view_is c.other.view_is c.requires kept.sized c.other.invariant.sized in
    let whole = subst (λ k. length other.values.items % k ≡ 0) same c.other.invariant.multiple in
    let took : Takes (built_sized now.size t now.values.items) more (map bytes (sized_strings other.size other.values.items)) =
    subst (λ k. Takes (built_sized now.size t now.values.items) more (map bytes (sized_strings k other.values.items))) (sym same)
    (took_sized now.size t t now.values.items other.values.items c.extend_from_slice.new.self.items kept.positive kept.multiple whole refl
    (c.in_ok-extend_from_slice.ensures.items ∙ ap (λ xs. now.values.items ++ xs) c.as_slice.ensures.value)) in
    let all : Takes (built_sized old.size (seen old.dtype) old.bytes) more (map bytes (sized_strings c.args.other.now.size c.args.other.now.bytes)) =
    subst (λ (o : SizedBytes). Takes (built_sized old.size (seen old.dtype) old.bytes) more (map bytes (sized_strings o.size o.bytes))) c.other.view_is
    (subst (λ (b : SizedBytes). Takes (built_sized b.size (seen b.dtype) b.bytes) more (map bytes (sized_strings other.size other.values.items))) c.self.view_is took) in
    (all.accepted, all.held, λ _. all)
