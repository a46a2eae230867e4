use Rattle.std.proofs.Common.{◌≡◌, ◌+◌, ◌∷◌, [], length, replicate, vec_len, refl, ◌∙◌, subst, arith}
use Rattle.std.proofs.lemmas.List.{length-replicate}
use Rattle.arrow_types.specs.Seen.{seen}
use Rattle.arrow_flat.specs.Built.{Takes}
use Rattle.arrow_push_bytes.specs.BuiltSized.{SizedBytes, built_sized, zeros_of}
use Rattle.arrow_push_bytes.proofs.BuiltSized.{took_one_sized, zeros_behind, zeros_multiple, zeros_small, zeros_are}
use Rattle.arrow_push_bytes.proofs.fixed_size_binary.FixedSizeBinaryValuesValuesBuilder.push_blank.Goals as goal

pub invariant_of-self : goal.invariant_of-self
invariant_of-self c =
    let now = c.self.inside in
    let kept = c.self.invariant in
    let n : length now.values.items ≡ vec_len now.values = (let l = now.values.ok.0 in omega arith) in
    let t : c.in-Some.total ≡ vec_len now.values + now.size = (let e = c.in-Some.ensures in let l = c.len.ensures in omega arith) in
    record {
      sized = kept.sized;
      positive = kept.positive;
      multiple = zeros_multiple now.size c.in-Some.total (vec_len now.values) now.values.items c.resize.new.self.items _ kept.positive kept.multiple n t c.resize.ensures.items;
      small = zeros_small now.size c.in-Some.total (vec_len now.values) now.values.items c.resize.new.self.items _ kept.small n t c.resize.ensures.items;
    }

pub returns : goal.returns
returns c =
    let now = c.self.inside in
    let kept = c.self.invariant in
    let s = seen now.dtype in
    let after = built_sized now.size s c.resize.new.self.items in
    let n : length now.values.items ≡ vec_len now.values = (let l = now.values.ok.0 in omega arith) in
    let t : c.in-Some.total ≡ vec_len now.values + now.size = (let e = c.in-Some.ensures in let l = c.len.ensures in omega arith) in
    subst (λ (b : SizedBytes). Takes (built_sized b.size (seen b.dtype) b.bytes) after (zeros_of (seen b.dtype) ∷ [])) c.self.view_is
    (subst (λ y. Takes (built_sized now.size s now.values.items) after (y ∷ [])) (zeros_are s now.size kept.sized)
    (took_one_sized now.size s s now.values.items (replicate now.size 0) c.resize.new.self.items kept.positive kept.multiple (length-replicate now.size 0) refl
    (c.in_ok-resize.ensures.items ∙ zeros_behind now.size c.in-Some.total (vec_len now.values) now.values.items n t)))
