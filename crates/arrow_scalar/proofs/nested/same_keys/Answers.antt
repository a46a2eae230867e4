use Rattle.std.proofs.Common.{ap, map, sym, ◌∙◌}
use Rattle.arrow_meaning.specs.Nodes.{key_layout, primitive_layout}
use Rattle.arrow_scalar.specs.Bare.{bare_keys}
use Rattle.arrow_types.specs.Seen.{seen}
use Rattle.arrow_scalar.proofs.KeyLists.{keys_same, to_same}
use Rattle.arrow_scalar.proofs.nested.same_keys.Goals as goal

pub returns-then-same_type : goal.returns-then-same_type
returns-then-same_type g c =
    let parts = g.K.NativeType.parts in
    let a = c.args.lhs.now in
    let b = c.in-Some.other.now in
    let p = ap (map parts) (c.as_slice.ensures ∙ c.values.ensures) in
    let q = ap (map parts) (c.as_slice-then-same_type.ensures ∙ c.values-then-same_type.ensures) in
    let h = c.same_values.ensures.numbers in
    let types = sym (ap seen c.dtype.ensures) ∙ c.same_type.ensures.0 c.if-same_type.true ∙ ap seen c.dtype-in-Some.ensures in
    let found = ap bare_keys c.in-Some.ensures in
    to_same c.same_values.result (bare_keys (primitive_layout parts a)) (bare_keys (primitive_layout parts b)) (bare_keys (key_layout c.args.rhs.now)) found
    (keys_same parts g.met.K.SameKey.one_number c.same_values.result a b types (λ t. sym p ∙ h.0 t ∙ q, λ e. h.1 (p ∙ e ∙ sym q)))
