use Rattle.std.proofs.Common.{◌≡◌, ◌/◌, length, map, ap, sym, ◌∙◌, subst, arith}
use Rattle.arrow_flat.specs.Slots.{bytes}
use Rattle.arrow_push_bytes.specs.BuiltSized.{SizedBytes, sized_strings}
use Rattle.arrow_push_bytes.proofs.BuiltSized.{slots_count}
use Rattle.arrow_push_bytes.proofs.fixed_size_binary.FixedSizeBinaryValuesValuesBuilder.len.Goals as goal

pub returns : goal.returns
returns c =
    let now = c.self.inside in
    let q : c.len.result ≡ length now.values.items = (let l = now.values.ok.0 in let e = c.len.ensures in omega arith) in
    subst (λ (b : SizedBytes). c.len.result / now.size ≡ length (map bytes (sized_strings b.size b.bytes))) c.self.view_is
    (ap (λ n. n / now.size) q ∙ sym (slots_count now.size now.values.items))
